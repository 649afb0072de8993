-- Whether a Switch stands in terms, at any depth of their braces, those of methods among them.
use Rattle.std.specs.Prelude.{Bool, true, false, ◌||◌, List, [], ◌∷◌}
use Rattle.asl_tree.specs.declared.term.Control.TheVariants as Control
use Rattle.asl_tree.specs.declared.term.Op.{Op}
use Rattle.asl_tree.specs.declared.term.Node.{Node}
use Rattle.asl_tree.specs.declared.term.Term.{Term}
use Rattle.asl_tree.specs.declared.term.Term as D

abbrev pub is_switch : Op → Bool
is_switch (Op.Control Control.Switch) = true
is_switch op = false

unfoldable mutual
  -- one stands there, whatever its arguments are
  pub switches : Term → Bool
  switches (D.Form' op shape args shape' body) = is_switch op || switches_row body
  switches _ = false

  pub switches_row : {m : _} → D.Row_of-Node m → Bool
  switches_row D.end_of-Node = false
  switches_row (D.more_of-Node id place term rest) = switches term || switches_row rest

-- the terms of a list
unfoldable pub has_switch : List Node → Bool
has_switch [] = false
has_switch (node ∷ nodes) = switches node.term || has_switch nodes
