use Rattle.std.proofs.Common.{◌≡◌, length, sym, ◌∙◌, ap, arith}
use Rattle.std.proofs.lemmas.List.{nil_from_length}
use Rattle.block_checks.proofs.names.without_or_told.Goals as goal

pub names_without-requires : goal.names_without-requires
names_without-requires g c =
    let none : length c.args.told ≡ 0 = grind (arith, c.is_empty.ensures, c.if-is_empty.true) in
    (c.requires.0, (c.requires.1.0, (c.requires.1.1.0, (c.requires.1.1.1.0, sym c.requires.1.1.1.1 ∙ nil_from_length c.args.told none))))

pub returns-in_ok-names : goal.returns-in_ok-names
returns-in_ok-names g c =
    let none : length c.args.told ≡ 0 = grind (arith, c.is_empty.ensures, c.if-is_empty.true) in
    (c.in_ok-names.ensures, sym c.requires.1.1.1.1 ∙ nil_from_length c.args.told none)

pub returns-else-is_empty : goal.returns-else-is_empty
returns-else-is_empty g c =
    (c.requires.1.1.1.1, λ e. let none : length c.args.told ≡ 0 = ap length e in let never : ⊥ = grind (arith, none, c.is_empty.ensures, c.if-is_empty.false) in never)
