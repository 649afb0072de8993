use Rattle.std.proofs.Common.{◌≡◌, [], length, get_or, ap, ◌∙◌, arith}
use Rattle.asl_tree.specs.Names.{enclosing, candidates, first_of}
use Rattle.name_spelling.proofs.Forms.{none_beside}
use Rattle.name_spelling.proofs.form.is_alone.Goals as goal

pub is_first_alone-requires-clause-found : goal.is_first_alone-requires-clause-found
is_first_alone-requires-clause-found c =
    let none : length c.args.also.now ≡ 0 = grind (arith, c.is_empty.ensures, c.if-is_empty.true) in
    ap (λ has. first_of (candidates has (enclosing c.args.segment (get_or c.args.paths.now c.args.scope [])))) (none_beside c.args.paths.now c.args.named.now c.args.also.now none) ∙ c.requires.found
