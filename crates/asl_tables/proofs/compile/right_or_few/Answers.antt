use Rattle.std.proofs.Common.{◌≡◌, length, sym, ap, ◌∙◌, arith}
use Rattle.std.proofs.lemmas.List.{nil_from_length}
use Rattle.asl_tables.proofs.compile.right_or_few.Goals as goal

pub returns-then-is_empty : goal.returns-then-is_empty
returns-then-is_empty g c =
    let none : length c.in_ok-few.few ≡ 0 = grind (arith, c.is_empty.ensures, c.if-is_empty.true) in
    (c.requires.0, sym c.in_ok-few.ensures ∙ nil_from_length c.in_ok-few.few none)

pub returns-else-is_empty : goal.returns-else-is_empty
returns-else-is_empty g c =
    (c.in_ok-few.ensures, λ e. let none : length c.in_ok-few.few ≡ 0 = ap length e in let never : ⊥ = grind (arith, none, c.is_empty.ensures, c.if-is_empty.false) in never)
