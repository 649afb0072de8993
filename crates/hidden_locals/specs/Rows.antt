-- A Switch alone, one that a Continue leaves, and two around each other that a Continue leaves; and the loops that stand for them.
use Rattle.std.specs.Prelude.{List, [], ◌∷◌}
use Rattle.acpi_values.specs.declared.operator.Plain.{Plain}
use Rattle.acpi_values.specs.declared.operator.IntOp.TheVariants as IntOp
use Rattle.acpi_state.specs.Forms.{ArgSlot}
use Rattle.asl_tree.specs.Tree.{Tree, Integer, InSlot, Apply, Operated, Assigned, Package, Return, If, ElseIf, Else, While, Switch}
use Rattle.asl_tree.specs.Tree.{Case, Default, Break, Continue, Trees, no_trees, tree}
use Rattle.hidden_locals.specs.Turns.{local, stored, zero_word, one_word, equal}

abbrev pub terms : List Tree → Trees
terms [] = no_trees
terms (t ∷ ts) = tree t (terms ts)

abbrev pub first_arg : Tree
first_arg = InSlot (ArgSlot 0)

-- Switch (Arg0) { Default { Return (20) } Case (1) { Return (10) } Case (Package () { 2, 3 }) { Break } }
abbrev pub lone : Trees
lone =
    terms
    (Switch first_arg
    (terms (Default (terms (Return (Integer 20) ∷ [])) ∷ Case (Integer 1) (terms (Return (Integer 10) ∷ [])) ∷ Case
    (Package 2 (terms (Integer 2 ∷ Integer 3 ∷ []))) (terms (Break ∷ [])) ∷ [])) ∷ [])

-- While (One) { Local0 = Arg0 If (Local0 == 1) { Return (10) } ElseIf (Local0 == 2 || Local0 == 3) { Break } Else {
-- Return (20) } Break }
abbrev pub lone_loop : Trees
lone_loop =
    terms (While one_word (terms (stored first_arg (local 0) ∷ If (equal (local 0) (Integer 1)) (terms (Return (Integer 10) ∷ []))
    ∷ ElseIf (Apply (Plain.Number IntOp.LOr) (terms (equal (local 0) (Integer 2) ∷ equal (local 0) (Integer 3) ∷ [])) no_trees)
    (terms (Break ∷ [])) ∷ Else (terms (Return (Integer 20) ∷ [])) ∷ Break ∷ [])) ∷ [])

abbrev pub is_below_two : Tree
is_below_two = Operated (Plain.Number IntOp.LLess) (terms (local 0 ∷ Integer 2 ∷ []))

-- While (Local0 < 2) { Switch (Local0) { Case (1) { Continue } } Local1 = Local0 } Return (Local1)
abbrev pub crossed : Trees
crossed =
    terms
    (While is_below_two
    (terms (Switch (local 0) (terms (Case (Integer 1) (terms (Continue ∷ [])) ∷ [])) ∷ Assigned (local 1) (local 0) ∷ [])) ∷ Return
    (local 1) ∷ [])

-- While (Local0 < 2) { Local3 = Zero While (One) { Local2 = Local0 If (Local2 == 1) { Local3 = One Break } Break }
-- If (Local3) { Local3 = Zero Continue } Local1 = Local0 } Return (Local1)
abbrev pub crossed_loop : Trees
crossed_loop =
    terms
    (While is_below_two
    (terms
    (stored zero_word (local 3) ∷ While one_word
    (terms (stored (local 0) (local 2) ∷ If (equal (local 2) (Integer 1)) (terms (stored one_word (local 3) ∷ Break ∷ [])) ∷ Break ∷
    []))
    ∷ If (local 3) (terms (stored zero_word (local 3) ∷ Continue ∷ [])) ∷ Assigned (local 1) (local 0) ∷ [])) ∷ Return (local 1) ∷ [])

-- While (One) { Switch (Arg0) { Default { Switch (Local0) { Default { Continue } } Break } } }
abbrev pub twice : Trees
twice =
    terms
    (While one_word
    (terms (Switch first_arg (terms (Default (terms (Switch (local 0) (terms (Default (terms (Continue ∷ [])) ∷ [])) ∷ Break ∷ [])) ∷ [])) ∷
    [])) ∷ [])

-- While (One) { Local3 = Zero While (One) { Local1 = Arg0 While (One) { Local2 = Local0 Local3 = One Break Break } If
-- (Local3) { Break } Break Break } If (Local3) { Local3 = Zero Continue } }
abbrev pub twice_loop : Trees
twice_loop =
    terms
    (While one_word
    (terms
    (stored zero_word (local 3) ∷ While one_word
    (terms
    (stored first_arg (local 1) ∷ While one_word (terms (stored (local 0) (local 2) ∷ stored one_word (local 3) ∷ Break ∷ Break ∷ []))
    ∷ If (local 3) (terms (Break ∷ [])) ∷ Break ∷ Break ∷ [])) ∷ If (local 3) (terms (stored zero_word (local 3) ∷ Continue ∷ [])) ∷ [])) ∷
    [])
