-- The promises of specs/Steps.antt: the steps over the tables give what the model says. Assumes nothing.
use Rattle.front.specs.Steps.{HappensBefore, Bars, Rules, Pairs}
use Rattle.front.proofs.TabledLaws.{tabled, owned}
use Rattle.front.proofs.OrderedLaws.{ordered}
use Rattle.front.proofs.BarredLaws.{barred}
use Rattle.front.proofs.WholeLaws.{ruled}
use Rattle.front.proofs.SettledLaws.{settled}

pub happens_before : HappensBefore
happens_before x t n q m p k h succ pred o =
    ordered x t n (tabled x t n h.slotted) h.agents h.sound q m h.rowed p k h.paired succ pred o

pub bars : Bars
bars x t n q m p k h succ pred o =
    barred x t n (tabled x t n h.slotted) succ pred q m h.sound h.rowed (happens_before x t n q m p k h succ pred o).1

pub rules : Rules
rules x t n q m p k h succ pred o =
    ruled x t n (tabled x t n h.slotted) q m h.rowed h.seen succ pred (happens_before x t n q m p k h succ pred o).1 h.sound

pub pairs : Pairs
pairs x t n q m p k h succ pred o = settled x t n (tabled x t n h.slotted) (owned x t n h.slotted) succ
