-- The promises of specs/Demands.antt hold. Assumes nothing.
use Rattle.tell.specs.Demands.{PrintsTheOrder, OneLine}
use Rattle.tell.proofs.PrintedLaws.{told_printed, line_unique}

pub prints_the_order : PrintsTheOrder
prints_the_order = told_printed

pub one_line : OneLine
one_line = line_unique
