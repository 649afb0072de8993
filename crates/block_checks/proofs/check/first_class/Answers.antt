use Rattle.std.proofs.Common.{◌≡◌, length, arith}
use Rattle.std.proofs.lemmas.List.{nil_from_length}
use Rattle.block_checks.proofs.Classes.{named_right, named_others, named_wrong}
use Rattle.block_checks.proofs.check.first_class.Goals as goal

pub returns-in-Right : goal.returns-in-Right
returns-in-Right c = λ told also terms h.
    let is = (rw c.in-Right.is at h) in
    let none : length c.args.errors ≡ 0 = grind (arith, c.if-is_empty.ensures, c.if-is_empty.true) in
    named_right c.in-Right.names told c.args.errors also terms is (nil_from_length c.args.errors none)

pub returns-in-Right-2 : goal.returns-in-Right-2
returns-in-Right-2 c = λ told also terms h.
    let is = (rw c.in-Right-2.is at h) in
    named_others told c.args.errors is.1 (λ e. let never : ⊥ = grind (arith, e, c.if-is_empty.ensures, c.if-is_empty.false) in never)

pub returns-in_ok-with_others-in-Wrong : goal.returns-in_ok-with_others-in-Wrong
returns-in_ok-with_others-in-Wrong c = λ told also terms h.
    let is = (rw c.in-Wrong.is at h) in
    named_wrong c.in-Wrong.told told c.args.errors c.in_ok-with_others-in-Wrong.field-0 is c.in_ok-with_others-in-Wrong.ensures
