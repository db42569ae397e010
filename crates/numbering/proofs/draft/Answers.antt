-- `numbering::draft` meets its contract: a header that cannot be passed, or the names and then the numbers. Assumes nothing.
use native.Mathlib.Omega.{arith}
use Rattle.written.specs.Limits.{narrow}
use Rattle.numbering.proofs.Texts.{line_low, no_header, malformed, too_many, numbers-can, numbers-drawn}
use Rattle.numbering.proofs.draft.Goals as goal

pub returns-then-text-c : goal.returns-then-text-c
returns-then-text-c c = no_header narrow _ _ _ c.requires c.past_comments-c.ensures c.if-text-c.true c.fault_at.ensures

pub fault_at-requires-in_default : goal.fault_at-requires-in_default
fault_at-requires-in_default c = let pre = c.requires in omega (arith, line_low narrow _ _ _ pre c.past_comments-c.ensures, pre.short)

pub fault_at-requires-then-h-gt2048 : goal.fault_at-requires-then-h-gt2048
fault_at-requires-then-h-gt2048 c = let pre = c.requires in omega (arith, line_low narrow _ _ _ pre c.past_comments-c.ensures, pre.short)

pub returns-then-h-gt2048 : goal.returns-then-h-gt2048
returns-then-h-gt2048 c =
    too_many narrow _ _ _ c.requires c.past_comments-c.ensures c.if-text-c.false c.header_at.ensures c.in-Some.is c.if-h-gt2048.true
    c.fault_at-then-h-gt2048.ensures

pub numbers-requires : goal.numbers-requires
numbers-requires c =
    numbers-can narrow _ _ _ c.requires c.past_comments-c.ensures c.if-text-c.false c.header_at.ensures c.in-Some.is c.if-h-gt2048.false
    (omega arith) c.put_names.ensures

pub returns-in_default : goal.returns-in_default
returns-in_default c =
    malformed narrow _ _ _ c.requires c.past_comments-c.ensures c.if-text-c.false c.header_at.ensures c.in_default.not-Some c.fault_at-in_default.ensures

pub returns : goal.returns
returns c =
    numbers-drawn narrow _ _ _ c.requires c.past_comments-c.ensures c.if-text-c.false c.header_at.ensures c.in-Some.is c.if-h-gt2048.false
    (omega arith) c.put_names.ensures c.numbers.result c.numbers.ensures
