-- The numbers of the nodes of what stands for a Printf, an Fprintf and a For, in preorder: a node before its arguments, and these before
-- what stands in its braces. A node of the form keeps its number where it first stands; its further copies, and the nodes that are made,
-- have the next numbers.
use Rattle.std.specs.Prelude.{ℕ, ◌+◌, ◌%◌, Bool, true, false, if◌then◌else◌, List, [], ◌∷◌, ◌++◌, Option, Some, None}
use Rattle.asl_tree.specs.Formats.{cut}
use Rattle.asl_tree.specs.declared.term.Control.TheVariants as Control
use Rattle.asl_tree.specs.declared.term.Op.{Op}
use Rattle.asl_tree.specs.declared.term.Node.{Node}
use Rattle.asl_tree.specs.declared.term.Term.{Term}
use Rattle.asl_tree.specs.declared.term.Term as D
use Rattle.term_plans.specs.Plans.{text_of, plan_of}
use Rattle.asl_prints.specs.Nodes.{goes_in}
use Rattle.asl_prints.specs.PlanParts.{is_continue}

unfoldable mutual
  -- the numbers of the nodes in a term
  pub numbers_in : Term → List ℕ
  numbers_in (D.Call' path shape args) = row_numbers args
  numbers_in (D.Form' op shape args shape' body) = row_numbers args ++ row_numbers body
  numbers_in _ = []

  pub row_numbers : {m : _} → D.Row_of-Node m → List ℕ
  row_numbers D.end_of-Node = []
  row_numbers (D.more_of-Node id place term rest) = id ∷ (numbers_in term ++ row_numbers rest)

unfoldable pub numbers_of : List Node → List ℕ
numbers_of [] = []
numbers_of (node ∷ nodes) = node.id ∷ (numbers_in node.term ++ numbers_of nodes)

-- the number behind one, of 32 bits
abbrev pub number_behind : ℕ → ℕ
number_behind n = (n + 1) % 4294967296

-- nodes that keep their numbers, and nodes that have none of their own
abbrev pub kept : List ℕ → List (Option ℕ)
kept [] = []
kept (id ∷ ids) = Some id ∷ kept ids

abbrev pub anew : List ℕ → List (Option ℕ)
anew [] = []
anew (id ∷ ids) = None ∷ anew ids

-- the latter have the next numbers
abbrev pub numbered : ℕ → List (Option ℕ) → List ℕ
numbered next [] = []
numbered next (Some id ∷ ids) = id ∷ numbered next ids
numbered next (None ∷ ids) = next ∷ numbered (number_behind next) ids

-- the next number behind them
abbrev pub next_behind : ℕ → List (Option ℕ) → ℕ
next_behind next [] = next
next_behind next (Some id ∷ ids) = next_behind next ids
next_behind next (None ∷ ids) = next_behind (number_behind next) ids

-- ---- what prints

-- Concatenate, with what it joins, and with a target that is left out
abbrev pub joined : (front behind : List (Option ℕ)) → List (Option ℕ)
joined front behind = None ∷ (front ++ (behind ++ None ∷ []))

abbrev pub with_text : List (Option ℕ) → List ℕ → List (Option ℕ)
with_text front [] = front
with_text front (c ∷ text) = joined front (None ∷ [])

abbrev pub with_arguments : List (Option ℕ) → List (List ℕ) → List Node → List (Option ℕ)
with_arguments front (text ∷ texts) (arg ∷ args) = with_arguments (with_text (joined front (kept (numbers_of (arg ∷ [])))) text) texts args
with_arguments front texts args = front

-- what a format says with its arguments
abbrev pub text_numbers : List Node → List (Option ℕ)
text_numbers (format ∷ args) = with_arguments (None ∷ []) (cut (text_of (plan_of format.term))).1 args
text_numbers [] = []

-- a Store of it, into the Debug object or a place
abbrev pub print_numbers : Op → List Node → List (Option ℕ)
print_numbers (Op.Control Control.Fprintf) (place ∷ args) = None ∷ (text_numbers args ++ kept (numbers_of (place ∷ [])))
print_numbers op args = None ∷ (text_numbers args ++ None ∷ [])

-- ---- a For

-- a node in the braces of a For, or all nodes of its step
pub data Mark : Type 0 where
  Own : (id : ℕ) → Mark
  Step : Mark

abbrev pub own : List ℕ → List Mark
own [] = []
own (id ∷ ids) = Own id ∷ own ids

-- the step, where a Continue follows
abbrev pub step_before : Term → List Mark
step_before term = if is_continue (plan_of term) then Step ∷ [] else []

unfoldable mutual
  -- what stands in a term, with the step before each Continue that belongs to the For
  pub stepped_in : Term → List Mark
  stepped_in (D.Form' op shape args shape' body) =
      own (row_numbers args) ++ (if goes_in op then stepped_row body else own (row_numbers body))
  stepped_in term = own (numbers_in term)

  pub stepped_row : {m : _} → D.Row_of-Node m → List Mark
  stepped_row D.end_of-Node = []
  stepped_row (D.more_of-Node id place term rest) = step_before term ++ (Own id ∷ (stepped_in term ++ stepped_row rest))

unfoldable pub stepped_nodes : List Node → List Mark
stepped_nodes [] = []
stepped_nodes (node ∷ nodes) = step_before node.term ++ (Own node.id ∷ (stepped_in node.term ++ stepped_nodes nodes))

-- the nodes of the step keep their numbers where it stands first; `again` says whether it stands already
module _ (step : List ℕ) where
  abbrev pub steps_kept : (again : Bool) → List Mark → List (Option ℕ)
  steps_kept again [] = []
  steps_kept again (Own id ∷ marks) = Some id ∷ steps_kept again marks
  steps_kept again (Step ∷ marks) = (if again then anew step else kept step) ++ steps_kept true marks

-- a term that may be left out
abbrev pub optional_numbers : ℕ → Term → List ℕ
optional_numbers id D.Omitted = []
optional_numbers id term = id ∷ numbers_in term

-- the start, and a While with its test and the body, which the step ends
abbrev pub for_numbers : (args body : List Node) → List (Option ℕ)
for_numbers (start ∷ test ∷ step ∷ []) body =
    kept (optional_numbers start.id start.term) ++ (None ∷ (kept (numbers_of (test ∷ []))
    ++ steps_kept (optional_numbers step.id step.term) false (stepped_nodes body ++ Step ∷ [])))
for_numbers args body = []

-- ---- a form, by its arguments and what stands in its braces
abbrev pub form_numbers : Term → List (Option ℕ)
form_numbers (D.Form' (Op.Control Control.For) shape args shape' body) =
    for_numbers (D.items-the_row-Node _ args) (D.items-the_row-Node _ body)
form_numbers (D.Form' op shape args shape' body) = print_numbers op (D.items-the_row-Node _ args)
form_numbers term = []
