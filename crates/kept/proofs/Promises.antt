-- The promises of specs/Promises.antt hold. Assumes nothing.
use mathlib.Core.Path.{refl}
use Rattle.kept.specs.Promises.{KeptLeavesNone, KeptNeedsEach, KeptIsPart, KeptNothing, KeptUnique, KeptByTest, FewerLeave, KeepsAgree}
use Rattle.kept.proofs.KeptLaws.{walk_none, walk_needs, walk_sub, walk_unique, kept_is, kept_nothing as nothing-kept}
use Rattle.kept.proofs.BarsLaws.{leaves_fewer}
use Rattle.kept.proofs.KeepsLaws.{keeps_unique}

pub kept_leaves_none : KeptLeavesNone
kept_leaves_none A L bars l k = walk_none k.broken k.walk

pub kept_needs_each : KeptNeedsEach
kept_needs_each A L fewer bars p q b k = walk_needs fewer k.walk p q b refl

pub kept_is_part : KeptIsPart
kept_is_part A L bars l k = walk_sub k.walk

pub kept_nothing : KeptNothing
kept_nothing A L fewer bars l k = nothing-kept fewer l k

pub kept_unique : KeptUnique
kept_unique A L bars k l a b = walk_unique a.walk b.walk

pub kept_by_test : KeptByTest
kept_by_test A L none bars tells l k = kept_is none tells k

pub fewer_leave : FewerLeave
fewer_leave = leaves_fewer

pub keeps_agree : KeepsAgree
keeps_agree k m before bars scratch out r q s t o p = keeps_unique r q
