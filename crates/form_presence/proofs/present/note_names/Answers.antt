use Rattle.std.proofs.Common.{◌≡◌, length, arith}
use Rattle.form_presence.proofs.Walks.{unnamed, some_named}
use Rattle.form_presence.proofs.present.note_names.Goals as goal

pub returns-then-is_empty-clause-kinds : goal.returns-then-is_empty-clause-kinds
returns-then-is_empty-clause-kinds c kind bytes =
    let none : length c.args.named.now ≡ 0 = grind (arith, c.is_empty.ensures, c.if-is_empty.true, c.as_slice.ensures) in unnamed kind bytes c.args.named.now c.args.seen.now none

pub returns-clause-kinds : goal.returns-clause-kinds
returns-clause-kinds c kind bytes = some_named kind bytes c.args.named.now c.args.seen.now (λ none. grind (arith, c.is_empty.ensures, c.if-is_empty.false, c.as_slice.ensures, none))
