-- The rows of a file as a tree, in which a conditional is one part: an `#if`, `#ifdef` or `#ifndef`, the `#elif`s and
-- the `#else` behind it, and its `#endif`.
use Rattle.std.specs.Prelude.{ℕ, ◌+◌, ◌≡◌, Bool, true, false, not, List, [], ◌∷◌, ◌++◌, ⊤, ◌⊎◌, Some, None, Ok, Err}
use Rattle.std.specs.declared.option.Option.{Option}
use Rattle.std.specs.Option.{option_map}
use Rattle.iasl_messages.specs.declared.place.Place.{Place}
use Rattle.asl_fragments.specs.Fragments.{ends_in_comment, without_comments}
use Rattle.asl_macros.specs.History.{History}
use Rattle.asl_conditions.specs.Condition.{is_known}
use Rattle.asl_directives.specs.declared.kind.DirectiveKind.{DirectiveKind}
use Rattle.asl_directives.specs.declared.kind.DirectiveKind.TheVariants as k
use Rattle.asl_directives.specs.Words.{word_of, behind_word, blanks_before}
use Rattle.asl_directives.specs.Forms.{name_alone}
use Rattle.asl_directives.specs.Kinds.{kind_of, is_conditional}
use Rattle.asl_preprocess.specs.Rows.{Row, Directive, Ordinary}
use Rattle.asl_preprocess.specs.State.{State, Pass, Outcome, then, at, stopped}
use Rattle.asl_preprocess.specs.Directives.{directive_text, truth_of}
use Rattle.asl_preprocess.specs.Preprocess.{Reading, Setting, of_row, done}

mutual
  -- rows in order: none; a row, and those behind it; or a conditional, and those behind it
  pub data RowTree : Type 0 where
    no_rows : RowTree
    row : (first : Row) (behind : RowTree) → RowTree
    conditional : (branches : BranchList) (end : Row) (behind : RowTree) → RowTree

  -- the branches of a conditional in order, each with its directive and the rows up to the next directive of that conditional
  pub data BranchList : Type 0 where
    no_branches : BranchList
    branch : (directive : Row) (inside : RowTree) (others : BranchList) → BranchList

-- all rows as they stand in the file
abbrev mutual
  pub listed : RowTree → List Row
  listed no_rows = []
  listed (row first behind) = first ∷ listed behind
  listed (conditional branches end behind) = listed_branches branches ++ end ∷ listed behind

  pub listed_branches : BranchList → List Row
  listed_branches no_branches = []
  listed_branches (branch directive inside others) = directive ∷ listed inside ++ listed_branches others

-- ---- directives

-- the kind of a directive, and what stands behind its word; comments count as blanks
abbrev pub kind_in : List ℕ → Option DirectiveKind
kind_in text = kind_of (word_of (directive_text (without_comments false text)))

abbrev pub operand_in : List ℕ → List ℕ
operand_in text = behind_word (directive_text (without_comments false text))

-- the place of its `#`
abbrev pub place_in : ℕ → ℕ → List ℕ → Place
place_in file n text = at file n (blanks_before (without_comments false text) + 1)

-- a directive of this kind, which leaves no comment open
abbrev pub Is : DirectiveKind → Row → Type 0
Is kind (Directive n text) = (kind_in text ≡ Some kind) × (ends_in_comment false text ≡ false)
Is kind (Ordinary n in_comment text) = ⊥

abbrev pub stands_in_conditional : Option DirectiveKind → Bool
stands_in_conditional None = false
stands_in_conditional (Some kind) = is_conditional kind

-- a row that is no directive of a conditional
abbrev pub IsOther : Row → Type 0
IsOther (Directive n text) = stands_in_conditional (kind_in text) ≡ false
IsOther (Ordinary n in_comment text) = ⊤

abbrev pub IsNone : BranchList → Type 0
IsNone no_branches = ⊤
IsNone (branch directive inside others) = ⊥

-- A conditional begins with a branch of an `#if`, `#ifdef` or `#ifndef`, each further one is of an `#elif`, and the last
-- may be of an `#else`. All else stands in rows by itself.
abbrev mutual
  pub AreWhole : RowTree → Type 0
  AreWhole no_rows = ⊤
  AreWhole (row first behind) = IsOther first × AreWhole behind
  AreWhole (conditional branches end behind) = AreBranches branches × Is k.EndIf end × AreWhole behind

  pub AreBranches : BranchList → Type 0
  AreBranches no_branches = ⊥
  AreBranches (branch directive inside others) = (Is k.If directive ⊎ (Is k.IfDefined directive ⊎ Is k.IfNotDefined directive))
      × AreWhole inside × AreFurther others

  pub AreFurther : BranchList → Type 0
  AreFurther no_branches = ⊤
  AreFurther (branch directive inside others) = (Is k.ElseIf directive × AreWhole inside × AreFurther others)
      ⊎ (Is k.Else directive × AreWhole inside × IsNone others)

-- ---- what rows do

-- whether the condition of a branch holds, by the definitions before it; none where it has a fault
abbrev pub condition_by : Option DirectiveKind → History → List ℕ → Option Bool
condition_by (Some k.If) history operand = truth_of history operand
condition_by (Some k.ElseIf) history operand = truth_of history operand
condition_by (Some k.IfDefined) history operand = option_map (λ name. is_known history name) (name_alone operand)
condition_by (Some k.IfNotDefined) history operand = option_map (λ name. not (is_known history name)) (name_alone operand)
condition_by (Some k.Else) history operand = Some true
condition_by _ history operand = None

abbrev pub condition : History → Row → Option Bool
condition history (Directive n text) = condition_by (kind_in text) history (operand_in text)
condition history (Ordinary n in_comment text) = None

-- the number of its fault: a wrong form, or a condition that is no expression
abbrev pub fault_by : Option DirectiveKind → ℕ
fault_by (Some k.IfDefined) = 6003
fault_by (Some k.IfNotDefined) = 6003
fault_by _ = 6006

abbrev pub told : ℕ → Row → State → Outcome State
told file (Directive n text) state = stopped state (fault_by (kind_in text)) (place_in file n text) []
told file (Ordinary n in_comment text) state = Ok state

-- the branch, those behind it, or its fault
abbrev pub chosen : Option Bool → Outcome State → Outcome State → Outcome State → Outcome State
chosen (Some true) inside others fault = inside
chosen (Some false) inside others fault = others
chosen None inside others fault = fault

-- RowTree of the file with this number are read one after another, where `does` says what a row does that is no directive
-- of a conditional. Of a conditional the first branch is read whose condition holds, and no other.
abbrev mutual
  pub read : (Row → State → Outcome State) → ℕ → RowTree → State → Outcome State
  read does file no_rows state = Ok state
  read does file (row first behind) state = then (does first state) (read does file behind)
  read does file (conditional branches end behind) state = then (read_first does file branches state) (read does file behind)

  pub read_first : (Row → State → Outcome State) → ℕ → BranchList → State → Outcome State
  read_first does file no_branches state = Ok state
  read_first does file (branch directive inside others) state =
      chosen (condition state.history directive) (read does file inside state) (read_first does file others state)
      (told file directive state)

-- what is known behind a row, the branches around it aside
abbrev pub known : Outcome Pass → Outcome State
known (Ok pass) = Ok pass.state
known (Err stop) = Err stop

-- what a row does where no conditional is around it
abbrev pub alone : Reading → Setting → ℕ → List ℕ → Row → State → Outcome State
alone reading setting file own r state =
    known (then (of_row setting.enabled file r (record { state = state; branches = [] })) (done reading setting own))
