-- Each shape is that of the table.
use Rattle.std.proofs.Common.{◌≡◌, refl, arith}
use Rattle.asm_syntax.specs.Values.{call_of}
use Rattle.workload.specs.Groups.{shapes}
use Rattle.workload.proofs.shapes.shape_at.Goals as goal

pub returns-in-0-clause-shape : goal.returns-in-0-clause-shape
unfolding shapes call_of
returns-in-0-clause-shape c = let is : c.args.number ≡ 0 = omega arith in rw (c.calling.ensures.call, c.calling.ensures.args, is) refl

pub returns-in-1-clause-shape : goal.returns-in-1-clause-shape
unfolding shapes call_of
returns-in-1-clause-shape c = let is : c.args.number ≡ 1 = omega arith in rw (c.calling-in-1.ensures.call, c.calling-in-1.ensures.args, is) refl

pub returns-in-2-clause-shape : goal.returns-in-2-clause-shape
unfolding shapes call_of
returns-in-2-clause-shape c = let is : c.args.number ≡ 2 = omega arith in rw (c.calling-in-2.ensures.call, c.calling-in-2.ensures.args, is) refl

pub returns-in-3-clause-shape : goal.returns-in-3-clause-shape
unfolding shapes call_of
returns-in-3-clause-shape c = let is : c.args.number ≡ 3 = omega arith in rw (c.calling-in-3.ensures.call, c.calling-in-3.ensures.args, is) refl

pub returns-in-4-clause-shape : goal.returns-in-4-clause-shape
unfolding shapes call_of
returns-in-4-clause-shape c = let is : c.args.number ≡ 4 = omega arith in rw (c.calling-in-4.ensures.call, c.calling-in-4.ensures.args, is) refl

pub returns-in-5-clause-shape : goal.returns-in-5-clause-shape
unfolding shapes call_of
returns-in-5-clause-shape c = let is : c.args.number ≡ 5 = omega arith in rw (c.calling-in-5.ensures.call, c.calling-in-5.ensures.args, is) refl

pub returns-in-6-clause-shape : goal.returns-in-6-clause-shape
unfolding shapes call_of
returns-in-6-clause-shape c = let is : c.args.number ≡ 6 = omega arith in rw (c.calling-in-6.ensures.call, c.calling-in-6.ensures.args, is) refl

pub returns-in-7-clause-shape : goal.returns-in-7-clause-shape
unfolding shapes call_of
returns-in-7-clause-shape c = let is : c.args.number ≡ 7 = omega arith in rw (c.calling-in-7.ensures.call, c.calling-in-7.ensures.args, is) refl

pub returns-in-8-clause-shape : goal.returns-in-8-clause-shape
unfolding shapes call_of
returns-in-8-clause-shape c = let is : c.args.number ≡ 8 = omega arith in rw (c.calling-in-8.ensures.call, c.calling-in-8.ensures.args, is) refl

pub returns-in-9-clause-shape : goal.returns-in-9-clause-shape
unfolding shapes call_of
returns-in-9-clause-shape c = let is : c.args.number ≡ 9 = omega arith in rw (c.calling-in-9.ensures.call, c.calling-in-9.ensures.args, is) refl

pub returns-in-10-clause-shape : goal.returns-in-10-clause-shape
unfolding shapes call_of
returns-in-10-clause-shape c = let is : c.args.number ≡ 10 = omega arith in rw (c.calling-in-10.ensures.call, c.calling-in-10.ensures.args, is) refl

pub returns-in-11-clause-shape : goal.returns-in-11-clause-shape
unfolding shapes call_of
returns-in-11-clause-shape c = let is : c.args.number ≡ 11 = omega arith in rw (c.calling-in-11.ensures.call, c.calling-in-11.ensures.args, is) refl

pub returns-in-12-clause-shape : goal.returns-in-12-clause-shape
unfolding shapes call_of
returns-in-12-clause-shape c = let is : c.args.number ≡ 12 = omega arith in rw (c.calling-in-12.ensures.call, c.calling-in-12.ensures.args, is) refl

pub returns-in-13-clause-shape : goal.returns-in-13-clause-shape
unfolding shapes call_of
returns-in-13-clause-shape c = let is : c.args.number ≡ 13 = omega arith in rw (c.calling-in-13.ensures.call, c.calling-in-13.ensures.args, is) refl

pub returns-in-14-clause-shape : goal.returns-in-14-clause-shape
unfolding shapes call_of
returns-in-14-clause-shape c = let is : c.args.number ≡ 14 = omega arith in rw (c.calling-in-14.ensures.call, c.calling-in-14.ensures.args, is) refl

pub returns-in_default-clause-shape : goal.returns-in_default-clause-shape
unfolding shapes call_of
returns-in_default-clause-shape c = let is : c.args.number ≡ 15 = omega arith in rw (c.calling-in_default.ensures.call, c.calling-in_default.ensures.args, is) refl
