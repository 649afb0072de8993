-- A source's core has as many pieces as places.
use Rattle.std.proofs.Common.{◌≡◌, ℕ, suc, ◌+◌, Bool, true, false, List, [], ◌∷◌, length, Some, refl, sym, ap, ◌∙◌, subst, arith, length-append}
use Rattle.std.specs.Prelude.{nat_le, ◌||◌, if◌then◌else◌, not, ◌++◌}
use Rattle.iasl_messages.specs.declared.place.Place.{Place}
use Rattle.acpi_values.specs.Paths.{AbsolutePath}
use Rattle.acpi_values.specs.declared.operator.Plain.{Plain}
use Rattle.acpi_values.specs.declared.width.Width.{Width}
use Rattle.asl_tree.specs.declared.term.Op.{Op}
use Rattle.asl_tree.specs.declared.term.Declaration.TheVariants as Declaration
use Rattle.asl_tree.specs.declared.term.Control.TheVariants as Control
use Rattle.asl_tree.specs.Tree.{At, Tree, Integer, Use, Apply, Package, VarPackage, External, Method, Container', Scope, If, ElseIf, Else, While, Break, Continue, Switch, Case, Default, Trees, no_trees, tree}
use Rattle.asl_tree.specs.View.{form, counted}
use Rattle.asl_tree.specs.Names.{declared_path, is_known}
use Rattle.asl_meaning.specs.Declarations.{ExternalType, known_of}
use Rattle.acpi_names.specs.Spelled.{inner_scope, spelled, spelled_all}
use Rattle.named_sessions.specs.Core.{says_of, core_beside}
use Rattle.asl_fold.specs.declared.fate.Fate.{Fate}
use Rattle.asl_fold.specs.Folds.{fate_of, replaced, reduced, sized, folded, folded_args, folded_all, folded_where}
use Rattle.asl_lower.specs.Nodes.{named, named_all}
use Rattle.asl_lower.specs.Nests.{joined}
use Rattle.wrapped_externals.specs.Wraps.{starts_branch, leading, in_if, wrapped, behind, wrapped_all, wrapped_where}
use Rattle.wrapped_externals.specs.Starts.{is_free, inner_starts, starts, with_ifs, placed_where}
use Rattle.term_plans.specs.Plans.{Plan, a_name, a_unit, a_call, a_form, Plans, no_plans, plan}
use Rattle.asl_numbers.specs.Numbers.{inside as within, nodes, numbered, numbered_all}
use Rattle.hidden_locals.specs.Crossing.{has_continue, have_continue}
use Rattle.hidden_locals.specs.Turns.{Plan as Turns, value_local, then_trees, loop_of, loop_terms, continue_terms}
use Rattle.hidden_locals.specs.Switches.{plan_of, opened, unswitched_all, links, default_link, without_switches}
use Rattle.switch_loops.specs.declared.kind.TermRole.{TermRole}
use Rattle.switch_loops.specs.Places.{DefaultPlaces, chain_places, else_places, turn_places, loop_places, continue_places}
use Rattle.switch_loops.proofs.KindRows.{tree_kind}
use Rattle.named_sessions.specs.Shaped.{AreNamed, AreFormed}
use Rattle.asl_prints.specs.Forms.{formed_all}
use Rattle.asl_prints.specs.Plans.{formed_plans}
use Rattle.asl_prints.proofs.PlanTrees.{Stands, StandAll}
use Rattle.asl_formats.proofs.PlanForms.{formed_stand}
use Rattle.form_shapes.specs.Near.{AreNear}
use Rattle.form_shapes.proofs.Formed.{forms_formed}
use Rattle.aml_writer.specs.Cuts.{cut, cut_all, run_length}
use Rattle.source_pieces.specs.Places.{is_left, are_left, steps_inside, is_inside, form_at, case_at, default_at, core_places_at, core_places_in, cases_in, default_in, core_places}
use Rattle.source_pieces.proofs.Stepped.{core_formed}
use Rattle.source_pieces.proofs.Forms.{Formed, FormedTerms, FormedCases, plain_kind, form_left, not_among, case_left}

-- a term, and those of the term lists in it
abbrev mutual
  cuts : Tree → ℕ
  cuts (Method at name flags body) = suc (all_cuts body)
  cuts (Container' kind at name body) = suc (all_cuts body)
  cuts (Scope here at name body) = suc (all_cuts body)
  cuts (If test body) = suc (all_cuts body)
  cuts (ElseIf test body) = suc (all_cuts body)
  cuts (Else body) = suc (all_cuts body)
  cuts (While test body) = suc (all_cuts body)
  cuts _ = 1

  pub all_cuts : Trees → ℕ
  all_cuts no_trees = 0
  all_cuts (tree t ts) = cuts t + all_cuts ts

-- ---- the parts

module _ (width : Width) (short : Bool) where
  mutual
    cut_count : (later : ℕ) (t : Tree) → length (cut width short later t) ≡ cuts t
    cut_count later (Method at name flags body) = ap suc (cut_counts body)
    cut_count later (Container' kind at name body) = ap suc (cut_counts body)
    cut_count later (Scope here at name body) = ap suc (cut_counts body)
    cut_count later (If test body) = ap suc (cut_counts body)
    cut_count later (ElseIf test body) = ap suc (cut_counts body)
    cut_count later (Else body) = ap suc (cut_counts body)
    cut_count later (While test body) = ap suc (cut_counts body)
    cut_count later t = refl

    pub cut_counts : (ts : Trees) → length (cut_all width short ts) ≡ all_cuts ts
    cut_counts no_trees = refl
    cut_counts (tree t ts) = length-append (cut width short (run_length width short ts) t) (cut_all width short ts) ∙ ap (λ n. n + length (cut_all width short ts)) (cut_count (run_length width short ts) t) ∙ ap (λ n. cuts t + n) (cut_counts ts)

-- ---- names are spelled

module _ (shorten : Bool) (also has : AbsolutePath → Bool) (says : AbsolutePath → ExternalType → ExternalType) where
  mutual
    spelled_count : (t : Tree) (scope : AbsolutePath) → cuts (spelled shorten also has says t scope) ≡ cuts t
    spelled_count (Method at name flags body) scope = ap suc (spelled_counts body (declared_path name scope))
    spelled_count (Container' kind at name body) scope = ap suc (spelled_counts body (declared_path name scope))
    spelled_count (Scope here at name body) scope = ap suc (spelled_counts body (inner_scope has name scope))
    spelled_count (If test body) scope = ap suc (spelled_counts body scope)
    spelled_count (ElseIf test body) scope = ap suc (spelled_counts body scope)
    spelled_count (Else body) scope = ap suc (spelled_counts body scope)
    spelled_count (While test body) scope = ap suc (spelled_counts body scope)
    spelled_count t scope = refl

    pub spelled_counts : (ts : Trees) (scope : AbsolutePath) → all_cuts (spelled_all shorten also has says ts scope) ≡ all_cuts ts
    spelled_counts no_trees scope = refl
    spelled_counts (tree t ts) scope = ap (λ n. n + all_cuts (spelled_all shorten also has says ts scope)) (spelled_count t scope) ∙ ap (λ n. cuts t + n) (spelled_counts ts scope)

-- ---- constants are folded

replaced_count : (fate : Fate) (op : Plain) (args targets : Trees) → cuts (replaced fate op args targets) ≡ 1
replaced_count Fate.Stays op args targets = refl
replaced_count (Fate.Becomes n) op args targets = refl
replaced_count (Fate.Stores n) op args targets = refl

counted_count : (n : ℕ) (elements : Trees) → cuts (counted n elements) ≡ 1
counted_count n elements = by_less (nat_le n 255)
  where
    by_less : (c : Bool) → cuts (if c then Package n elements else VarPackage (Integer n) elements) ≡ 1
    by_less true = refl
    by_less false = refl

sized_count : (size : Tree) (elements : Trees) → cuts (sized size elements) ≡ 1
sized_count (Integer n) elements = counted_count n elements
sized_count size elements = refl

module _ (width : Width) where
  reduced_count : (statement : Bool) (op : Plain) (args targets : Trees) → cuts (reduced width statement op args targets) ≡ 1
  reduced_count statement (Plain.Number op) args targets = replaced_count (fate_of width statement op args targets) (Plain.Number op) args targets
  reduced_count statement op args targets = refl

  mutual
    folded_count : (statement : Bool) (t : Tree) → cuts (folded width statement t) ≡ cuts t
    folded_count statement (Apply op args targets) = reduced_count statement op (folded_args width args) (folded_args width targets)
    folded_count statement (VarPackage size elements) = sized_count (folded width false size) (folded_args width elements)
    folded_count statement (Method at name flags body) = ap suc (folded_counts body)
    folded_count statement (Container' kind at name body) = ap suc (folded_counts body)
    folded_count statement (Scope here at name body) = ap suc (folded_counts body)
    folded_count statement (If test body) = ap suc (folded_counts body)
    folded_count statement (ElseIf test body) = ap suc (folded_counts body)
    folded_count statement (Else body) = ap suc (folded_counts body)
    folded_count statement (While test body) = ap suc (folded_counts body)
    folded_count statement t = refl

    folded_counts : (ts : Trees) → all_cuts (folded_all width ts) ≡ all_cuts ts
    folded_counts no_trees = refl
    folded_counts (tree t ts) = ap (λ n. n + all_cuts (folded_all width ts)) (folded_count true t) ∙ ap (λ n. cuts t + n) (folded_counts ts)

pub where_counts : (fold : Bool) (width : Width) (ts : Trees) → all_cuts (folded_where fold width ts) ≡ all_cuts ts
where_counts true width ts = folded_counts width ts
where_counts false width ts = refl

-- ---- symbols are named

mutual
  named_count : (t : Tree) → cuts (named t) ≡ cuts t
  named_count (Method at name flags body) = ap suc (named_counts body)
  named_count (Container' kind at name body) = ap suc (named_counts body)
  named_count (Scope here at name body) = ap suc (named_counts body)
  named_count (If test body) = ap suc (named_counts body)
  named_count (ElseIf test body) = ap suc (named_counts body)
  named_count (Else body) = ap suc (named_counts body)
  named_count (While test body) = ap suc (named_counts body)
  named_count t = refl

  named_counts : (ts : Trees) → all_cuts (named_all ts) ≡ all_cuts ts
  named_counts no_trees = refl
  named_counts (tree t ts) = ap (λ n. n + all_cuts (named_all ts)) (named_count t) ∙ ap (λ n. cuts t + n) (named_counts ts)

-- ---- loops stand for Switches

then_cuts : (ts us : Trees) → all_cuts (then_trees ts us) ≡ all_cuts ts + all_cuts us
then_cuts no_trees us = omega arith
then_cuts (tree t ts) us = let more = then_cuts ts us in omega (arith, more)

turn_cuts : (value l : Tree) (chain : Trees) (place : Place) (places : List Place) → all_cuts chain ≡ length places → cuts (loop_of value l chain) ≡ length (turn_places place places)
turn_cuts value l chain place places e = ap (λ n. suc (1 + n)) (then_cuts chain (tree Break no_trees) ∙ ap (λ n. n + 1) e ∙ sym (length-append places (place ∷ []))) ∙ omega arith

loop_cuts : (turns : Turns) (left inside : Bool) (loop : Tree) (rest : Trees) (place : Place) (turn : List Place) → cuts loop ≡ length turn → all_cuts (loop_terms turns left inside loop rest) ≡ length (loop_places left inside place turn) + all_cuts rest
loop_cuts turns false inside loop rest place turn e = ap (λ n. n + all_cuts rest) e
loop_cuts turns true false loop rest place turn e = let longer = length-append turn (place ∷ place ∷ place ∷ []) in omega (arith, e, longer)
loop_cuts turns true true loop rest place turn e = let longer = length-append turn (place ∷ place ∷ []) in omega (arith, e, longer)

continue_cuts : (turns : Turns) (inside : Bool) (rest : Trees) (place : Place) → all_cuts (continue_terms turns inside rest) ≡ length (continue_places inside place) + all_cuts rest
continue_cuts turns false rest place = refl
continue_cuts turns true rest place = omega arith

-- what stands for terms, and for the Cases of a Switch
abbrev AreTurned : Trees → (Bool → List Place) → Type 0
AreTurned terms places = (turns : Turns) (level : ℕ) (inside : Bool) → all_cuts (unswitched_all turns level inside terms) ≡ length (places inside)

-- the branches with an Else, and as they stand where no If is before them
abbrev AsMany : Trees → List Place → DefaultPlaces → Type 0
AsMany branches cases default = (all_cuts branches ≡ length (cases ++ else_places default)) × (all_cuts (opened branches) ≡ length (chain_places cases default))

abbrev AreLinked : Trees → List Place → DefaultPlaces → Type 0
AreLinked terms cases default = (turns : Turns) (level : ℕ) → AsMany (links turns level terms (default_link turns level terms)) cases default

alone_cuts : (t : Tree) (turns : Turns) (level : ℕ) (inside : Bool) (rest : Trees) → tree_kind t ≡ TermRole.Other → all_cuts (unswitched_all turns level inside (tree t rest)) ≡ 1 + all_cuts (unswitched_all turns level inside rest)
alone_cuts (Method at name flags body) turns level inside rest e = absurd cc
alone_cuts (Container' kind at name body) turns level inside rest e = absurd cc
alone_cuts (Scope here at name body) turns level inside rest e = absurd cc
alone_cuts (If test body) turns level inside rest e = absurd cc
alone_cuts (ElseIf test body) turns level inside rest e = absurd cc
alone_cuts (Else body) turns level inside rest e = absurd cc
alone_cuts (While test body) turns level inside rest e = absurd cc
alone_cuts (Switch value cases) turns level inside rest e = absurd cc
alone_cuts (Case value body) turns level inside rest e = absurd cc
alone_cuts (Default body) turns level inside rest e = absurd cc
alone_cuts Continue turns level inside rest e = absurd cc
alone_cuts t turns level inside rest e = refl

-- a form before others
module _ (turns : Turns) (level : ℕ) (inside : Bool) (rest : Trees) (args' : Plans) (left : Bool) (place : Place) (inner : Bool → List Place → List Place) (chain : List Place → List Place) (default : List Place → DefaultPlaces) where
  abbrev more : ℕ
  more = all_cuts (unswitched_all turns level inside rest)

  pub form_count : (here : At) (op : Op) (args body : Trees) → Formed (form here op args body) → (FormedTerms body → AreTurned body (λ inside. inner inside [])) → (FormedCases body → have_continue body ≡ left) → (FormedCases body → AreLinked body (chain []) (default []))
      → all_cuts (unswitched_all turns level inside (tree (form here op args body) rest)) ≡ length (form_at op args' inside left [] place (inner (is_inside op inside) (steps_inside op args' [])) (chain_places (chain (steps_inside op args' [])) (default (steps_inside op args' [])))) + more
  form_count here (Op.Declaration Declaration.Method) (tree (Use at name) (tree (Integer arity) no_trees)) body h i k l = ap (λ n. suc n + more) (i h.2 (plan_of body) 0 false)
  form_count here (Op.Declaration Declaration.Method) _ body h i k l = absurd h
  form_count here (Op.Declaration Declaration.Device) (tree (Use at name) no_trees) body h i k l = ap (λ n. suc n + more) (i h.2 turns level inside)
  form_count here (Op.Declaration Declaration.Device) _ body h i k l = absurd h
  form_count here (Op.Declaration Declaration.ThermalZone) (tree (Use at name) no_trees) body h i k l = ap (λ n. suc n + more) (i h.2 turns level inside)
  form_count here (Op.Declaration Declaration.ThermalZone) _ body h i k l = absurd h
  form_count here (Op.Declaration Declaration.PowerResource) (tree (Use at name) (tree (Integer power) (tree (Integer order) no_trees))) body h i k l = ap (λ n. suc n + more) (i h.2 turns level inside)
  form_count here (Op.Declaration Declaration.PowerResource) _ body h i k l = absurd h
  form_count here (Op.Declaration Declaration.Processor) (tree (Use at name) (tree (Integer number) (tree (Integer address) (tree (Integer size) no_trees)))) body h i k l = ap (λ n. suc n + more) (i h.2 turns level inside)
  form_count here (Op.Declaration Declaration.Processor) _ body h i k l = absurd h
  form_count here (Op.Declaration Declaration.Scope) (tree (Use at name) no_trees) body h i k l = ap (λ n. suc n + more) (i h.1 turns level inside)
  form_count here (Op.Declaration Declaration.Scope) _ body h i k l = absurd h
  form_count here (Op.Control Control.If) (tree test no_trees) body h i k l = ap (λ n. suc n + more) (i h.2 turns level inside)
  form_count here (Op.Control Control.If) _ body h i k l = absurd h
  form_count here (Op.Control Control.ElseIf) (tree test no_trees) body h i k l = ap (λ n. suc n + more) (i h.2 turns level inside)
  form_count here (Op.Control Control.ElseIf) _ body h i k l = absurd h
  form_count here (Op.Control Control.Else) no_trees body h i k l = ap (λ n. suc n + more) (i h turns level inside)
  form_count here (Op.Control Control.Else) _ body h i k l = absurd h
  form_count here (Op.Control Control.While) (tree test no_trees) body h i k l = ap (λ n. suc n + more) (i h.2 turns level false)
  form_count here (Op.Control Control.While) _ body h i k l = absurd h
  form_count here (Op.Control Control.For) (tree start (tree test (tree step no_trees))) body h i k l = absurd h.0
  form_count here (Op.Control Control.For) _ body h i k l = absurd h
  form_count here (Op.Control Control.Switch) (tree value no_trees) body h i k l =
      let turn = turn_places place (chain_places (chain []) (default [])) in
      let tests = opened (links turns level body (default_link turns level body)) in
      loop_cuts turns (have_continue body) inside (loop_of value (value_local turns level) tests) (unswitched_all turns level inside rest) place turn
      (turn_cuts value (value_local turns level) tests place (chain_places (chain []) (default [])) (l h.3 turns level).1)
      ∙ ap (λ b. length (loop_places b inside place turn) + more) (k h.3)
  form_count here (Op.Control Control.Switch) _ body h i k l = absurd h
  form_count here (Op.Control Control.Case) (tree value no_trees) body h i k l = absurd h
  form_count here (Op.Control Control.Case) _ body h i k l = absurd h
  form_count here (Op.Control Control.Default) no_trees body h i k l = absurd h
  form_count here (Op.Control Control.Default) _ body h i k l = absurd h
  form_count here (Op.Control Control.Continue) no_trees no_trees h i k l = continue_cuts turns inside (unswitched_all turns level inside rest) place
  form_count here (Op.Control Control.Continue) _ _ h i k l = absurd h
  form_count here op args body h i k l = alone_cuts (form here op args body) turns level inside rest (plain_kind here op args body refl refl)

-- a Case before others, and a Default that is the last
case_sum : (n m : ℕ) (place : Place) (inner cases others : List Place) → n ≡ length inner → m ≡ length (cases ++ others) → suc n + m ≡ length ((place ∷ (inner ++ cases)) ++ others)
case_sum n m place inner cases others e f =
    let whole = length-append (inner ++ cases) others in
    let first = length-append inner cases in
    let behind = length-append cases others in
    omega (arith, e, f, whole, first, behind)

default_sum : (made : Trees) (place : Place) (inner cases : List Place) (later : DefaultPlaces) → all_cuts made ≡ length inner → 0 ≡ length (cases ++ else_places later) → AsMany (tree (Else made) no_trees) cases (Some (place, inner))
default_sum made place inner [] later e none = (omega (arith, e), e)
default_sum made place inner (p ∷ ps) later e none = absurd (omega (arith, none))

case_count : (turns : Turns) (level : ℕ) (place : Place) (inner : Bool → List Place) (others : List Place) (later : DefaultPlaces) (here : At) (op : Op) (args body cases : Trees) → FormedCases (tree (form here op args body) cases) → (FormedTerms body → AreTurned body inner)
    → (FormedCases cases → AreLinked cases others later) → AsMany (links turns level (tree (form here op args body) cases) (default_link turns level (tree (form here op args body) cases))) (case_at op place (inner true) ++ others) (default_at op place (inner true) later)
case_count turns level place inner others later here (Op.Control Control.Case) (tree value no_trees) body cases h i k =
    let sum = case_sum _ _ place (inner true) others (else_places later) (i h.1 turns (suc level) true) (k h.2 turns level).0 in (sum, sum)
case_count turns level place inner others later here (Op.Control Control.Case) _ body cases h i k = absurd h
case_count turns level place inner others later here (Op.Control Control.Default) no_trees body no_trees h i k = default_sum (unswitched_all turns (suc level) true body) place (inner true) others later (i h turns (suc level) true) (k tt turns level).0
case_count turns level place inner others later here (Op.Control Control.Default) no_trees body (tree t ts) h i k = absurd h
case_count turns level place inner others later here (Op.Control Control.Default) _ body cases h i k = absurd h
case_count turns level place inner others later here op args body cases h i k = absurd (not_among ⊥ here op args body cases refl h)

-- ---- formed terms by the plans that they stand for

mutual
  unfolding is_left

  stands_left : (p : Plan) (t : Tree) → Stands p t → Formed t → has_continue t ≡ is_left p
  stands_left (a_form op args body) t s h =
      ap has_continue s.3 ∙ form_left s.0 op s.1 s.2 (are_left body) (subst Formed s.3 h) (λ k. stand_left body s.2 s.5 k) (λ k. cases_left body s.2 s.5 k)
  stands_left (a_call name args) t s h = ap has_continue s.2
  stands_left (a_name name) t s h = ap has_continue s.1
  stands_left (a_unit segment bits) t s h = ap has_continue s.1
  stands_left p t s h = ap has_continue s

  stand_left : (ps : Plans) (ts : Trees) → StandAll ps ts → FormedTerms ts → have_continue ts ≡ are_left ps
  stand_left no_plans no_trees s h = refl
  stand_left no_plans (tree t ts) s h = absurd s
  stand_left (plan place p ps) no_trees s h = absurd s
  stand_left (plan place p ps) (tree t ts) s h = ap (λ b. b || have_continue ts) (stands_left p t s.0 h.0) ∙ ap (λ b. is_left p || b) (stand_left ps ts s.1 h.2)

  cases_left : (ps : Plans) (ts : Trees) → StandAll ps ts → FormedCases ts → have_continue ts ≡ are_left ps
  cases_left no_plans no_trees s h = refl
  cases_left no_plans (tree t ts) s h = absurd s
  cases_left (plan place p ps) no_trees s h = absurd s
  cases_left (plan place (a_form op args body) ps) (tree t ts) s h =
      ap (λ u. has_continue u || have_continue ts) s.0.3
      ∙ case_left s.0.0 op s.0.1 s.0.2 ts (are_left body) (are_left ps) (subst (λ u. FormedCases (tree u ts)) s.0.3 h) (λ k. stand_left body s.0.2 s.0.5 k) (λ k. cases_left ps ts s.1 k)
  cases_left (plan place (a_call name args) ps) (tree t ts) s h = absurd (subst (λ u. FormedCases (tree u ts)) s.0.2 h)
  cases_left (plan place (a_name name) ps) (tree t ts) s h = absurd (subst (λ u. FormedCases (tree u ts)) s.0.1 h)
  cases_left (plan place (a_unit segment bits) ps) (tree t ts) s h = absurd (subst (λ u. FormedCases (tree u ts)) s.0.1 h)
  cases_left (plan place p ps) (tree t ts) s h = absurd (subst (λ u. FormedCases (tree u ts)) s.0 h)

-- as many terms as a tree and those behind it are
abbrev are_before : Turns → ℕ → Bool → Trees → Tree → ℕ
are_before turns level inside rest t = all_cuts (unswitched_all turns level inside (tree t rest))

mutual
  unfolding core_places_at

  stands_count : (turns : Turns) (level : ℕ) (inside : Bool) (rest : Trees) (place : Place) (p : Plan) (t : Tree) → Stands p t → Formed t
      → all_cuts (unswitched_all turns level inside (tree t rest)) ≡ length (core_places_at inside [] place p) + all_cuts (unswitched_all turns level inside rest)
  stands_count turns level inside rest place (a_form op args body) t s h =
      ap (are_before turns level inside rest) s.3
      ∙ form_count turns level inside rest args (are_left body) place (λ inside steps. core_places_in inside steps body) (λ steps. cases_in steps body) (λ steps. default_in steps body) s.0 op s.1 s.2 (subst Formed s.3 h)
      (λ k. stand_count body s.2 s.5 k) (λ k. cases_left body s.2 s.5 k) (λ k. cases_count body s.2 s.5 k)
  stands_count turns level inside rest place (a_call name args) t s h = ap (are_before turns level inside rest) s.2
  stands_count turns level inside rest place (a_name name) t s h = ap (are_before turns level inside rest) s.1
  stands_count turns level inside rest place (a_unit segment bits) t s h = ap (are_before turns level inside rest) s.1
  stands_count turns level inside rest place p t s h = ap (are_before turns level inside rest) s

  stand_count : (ps : Plans) (ts : Trees) → StandAll ps ts → FormedTerms ts → AreTurned ts (λ inside. core_places_in inside [] ps)
  stand_count no_plans no_trees s h turns level inside = refl
  stand_count no_plans (tree t ts) s h turns level inside = absurd s
  stand_count (plan place p ps) no_trees s h turns level inside = absurd s
  stand_count (plan place p ps) (tree t ts) s h turns level inside =
      stands_count turns level inside ts place p t s.0 h.0 ∙ ap (λ n. length (core_places_at inside [] place p) + n) (stand_count ps ts s.1 h.2 turns level inside)
      ∙ sym (length-append (core_places_at inside [] place p) (core_places_in inside [] ps))

  cases_count : (ps : Plans) (ts : Trees) → StandAll ps ts → FormedCases ts → AreLinked ts (cases_in [] ps) (default_in [] ps)
  cases_count no_plans no_trees s h turns level = (refl, refl)
  cases_count no_plans (tree t ts) s h turns level = absurd s
  cases_count (plan place p ps) no_trees s h turns level = absurd s
  cases_count (plan place (a_form op args body) ps) (tree t ts) s h turns level =
      subst (λ u. AsMany (links turns level (tree u ts) (default_link turns level (tree u ts))) (case_at op place (core_places_in true [] body) ++ cases_in [] ps) (default_at op place (core_places_in true [] body) (default_in [] ps))) (sym s.0.3)
      (case_count turns level place (λ inside. core_places_in inside [] body) (cases_in [] ps) (default_in [] ps) s.0.0 op s.0.1 s.0.2 ts (subst (λ u. FormedCases (tree u ts)) s.0.3 h)
      (λ k. stand_count body s.0.2 s.0.5 k) (λ k. cases_count ps ts s.1 k))
  cases_count (plan place (a_call name args) ps) (tree t ts) s h turns level = absurd (subst (λ u. FormedCases (tree u ts)) s.0.2 h)
  cases_count (plan place (a_name name) ps) (tree t ts) s h turns level = absurd (subst (λ u. FormedCases (tree u ts)) s.0.1 h)
  cases_count (plan place (a_unit segment bits) ps) (tree t ts) s h turns level = absurd (subst (λ u. FormedCases (tree u ts)) s.0.1 h)
  cases_count (plan place p ps) (tree t ts) s h turns level = absurd (subst (λ u. FormedCases (tree u ts)) s.0 h)

mutual
  unfolding numbered

  numbered_stands : (at : At) (next : ℕ) (p : Plan) → Stands p (numbered at next p)
  numbered_stands at next (a_form op args body) =
      (at, numbered_all next args, numbered_all (next + nodes args) body, refl, numbered_stand next args, numbered_stand (next + nodes args) body)
  numbered_stands at next (a_call name args) = (at, numbered_all next args, refl, numbered_stand next args)
  numbered_stands at next (a_name name) = (at, refl)
  numbered_stands at next (a_unit segment bits) = (at, refl)
  numbered_stands at next p = refl

  numbered_stand : (next : ℕ) (ps : Plans) → StandAll ps (numbered_all next ps)
  numbered_stand next no_plans = tt
  numbered_stand next (plan place p ps) = (numbered_stands (record { id = next; place = place }) (suc next) p, numbered_stand (suc (next + within p)) ps)

-- ---- Externals are put into Ifs: an If is one term more

abbrev marked : List Bool → ℕ
marked [] = 0
marked (true ∷ rest) = suc (marked rest)
marked (false ∷ rest) = marked rest

marked_append : (fs gs : List Bool) → marked (fs ++ gs) ≡ marked fs + marked gs
marked_append [] gs = omega arith
marked_append (true ∷ fs) gs = let h = marked_append fs gs in omega (arith, h)
marked_append (false ∷ fs) gs = marked_append fs gs

more_places : (fs : List Bool) (ps : List Place) → length fs ≡ length ps → length (with_ifs fs ps) ≡ length ps + marked fs
more_places [] [] e = refl
more_places [] (p ∷ ps) e = absurd (omega (arith, e))
more_places (f ∷ fs) [] e = absurd (omega (arith, e))
more_places (true ∷ fs) (p ∷ ps) e = let h = more_places fs ps (omega (arith, e)) in omega (arith, h)
more_places (false ∷ fs) (p ∷ ps) e = let h = more_places fs ps (omega (arith, e)) in omega (arith, h)

joined_counts : (ts us : Trees) → all_cuts (joined ts us) ≡ all_cuts ts + all_cuts us
joined_counts no_trees us = omega arith
joined_counts (tree t ts) us = let h = joined_counts ts us in omega (arith, h)

-- sums of what stands first and what stands behind
zero_first : (n : ℕ) → n ≡ 0 + n
zero_first n = omega arith

one_first : (n : ℕ) → suc n ≡ 1 + n
one_first n = omega arith

suc_first : (a b : ℕ) → suc (a + b) ≡ suc a + b
suc_first a b = omega arith

one_more : (a b : ℕ) → suc a + b ≡ 1 + (a + b)
one_more a b = omega arith

one_each : (a b c d : ℕ) → a + b ≡ c + d → (1 + a) + b ≡ (1 + c) + d
one_each a b c d h = omega (arith, h)

both_lengths : (i r a b : ℕ) → suc i ≡ a → r ≡ b → suc (i + r) ≡ a + b
both_lengths i r a b h k = omega (arith, h, k)

both_counts : (w g a b i r : ℕ) → w ≡ a + i → g ≡ b + r → 0 + (w + g) ≡ (a + b) + (i + r)
both_counts w g a b i r h k = omega (arith, h, k)

flag_first : (f a b c s m : ℕ) → a + b ≡ c + s → m ≡ f + s → f + (a + b) ≡ c + m
flag_first f a b c s m h k = omega (arith, h, k)

mutual
  inner_length : (t : Tree) → suc (length (inner_starts t)) ≡ cuts t
  inner_length (Method at name flags body) = ap suc (starts_length false body)
  inner_length (Container' kind at name body) = ap suc (starts_length false body)
  inner_length (Scope here at name body) = ap suc (starts_length false body)
  inner_length (If test body) = ap suc (starts_length false body)
  inner_length (ElseIf test body) = ap suc (starts_length false body)
  inner_length (Else body) = ap suc (starts_length false body)
  inner_length (While test body) = ap suc (starts_length false body)
  inner_length t = refl

  starts_length : (inside : Bool) (ts : Trees) → length (starts inside ts) ≡ all_cuts ts
  starts_length inside no_trees = refl
  starts_length inside (tree (External here at name type parameters) ts) = ap suc (starts_length true ts) ∙ one_first (all_cuts ts)
  starts_length inside (tree t ts) =
      ap suc (length-append (inner_starts t) (starts false ts)) ∙ both_lengths (length (inner_starts t)) (length (starts false ts)) (cuts t) (all_cuts ts) (inner_length t) (starts_length false ts)

-- an Else that stands behind the Externals which stand first
behind_free : (ts : Trees) → starts_branch (behind ts) ≡ not (is_free ts)
behind_free no_trees = refl
behind_free (tree (External here at name type parameters) ts) = behind_free ts
behind_free (tree (Else body) ts) = refl
behind_free (tree (ElseIf test body) ts) = refl
behind_free (tree _ ts) = refl

if_counts : (run us : Trees) (first : Tree) (branch free : Bool) → branch ≡ not free → all_cuts (joined (in_if (tree first run) branch) us) ≡ marked (free ∷ []) + (all_cuts (tree first run) + all_cuts us)
if_counts run us first branch true e = ap (λ b. all_cuts (joined (in_if (tree first run) b) us)) e ∙ one_more (all_cuts (tree first run)) (all_cuts us)
if_counts run us first branch false e = ap (λ b. all_cuts (joined (in_if (tree first run) b) us)) e ∙ joined_counts (tree first run) us ∙ zero_first (all_cuts (tree first run) + all_cuts us)

-- a list of which what stands behind its first Externals is counted
list_counts : (ts : Trees) → all_cuts (leading ts) + all_cuts (behind ts) ≡ all_cuts ts + marked (starts true ts) → all_cuts (wrapped_all ts) ≡ all_cuts ts + marked (starts false ts)
list_counts no_trees h = refl
list_counts (tree (External here at name type parameters) ts) h =
    let first : Tree = External here at name type parameters in
    if_counts (leading ts) (behind ts) first (starts_branch (behind ts)) (is_free ts) (behind_free ts)
    ∙ flag_first (marked (is_free ts ∷ [])) (all_cuts (tree first (leading ts))) (all_cuts (behind ts)) (all_cuts (tree first ts)) (marked (starts true ts)) (marked (starts false (tree first ts))) h (marked_append (is_free ts ∷ []) (starts true ts))
list_counts (tree t ts) h = zero_first (all_cuts (wrapped_all (tree t ts))) ∙ h

mutual
  wrapped_count : (t : Tree) → cuts (wrapped t) ≡ cuts t + marked (inner_starts t)
  wrapped_count (Method at name flags body) = ap suc (list_counts body (behind_count body)) ∙ suc_first (all_cuts body) (marked (starts false body))
  wrapped_count (Container' kind at name body) = ap suc (list_counts body (behind_count body)) ∙ suc_first (all_cuts body) (marked (starts false body))
  wrapped_count (Scope here at name body) = ap suc (list_counts body (behind_count body)) ∙ suc_first (all_cuts body) (marked (starts false body))
  wrapped_count (If test body) = ap suc (list_counts body (behind_count body)) ∙ suc_first (all_cuts body) (marked (starts false body))
  wrapped_count (ElseIf test body) = ap suc (list_counts body (behind_count body)) ∙ suc_first (all_cuts body) (marked (starts false body))
  wrapped_count (Else body) = ap suc (list_counts body (behind_count body)) ∙ suc_first (all_cuts body) (marked (starts false body))
  wrapped_count (While test body) = ap suc (list_counts body (behind_count body)) ∙ suc_first (all_cuts body) (marked (starts false body))
  wrapped_count t = refl

  behind_count : (ts : Trees) → all_cuts (leading ts) + all_cuts (behind ts) ≡ all_cuts ts + marked (starts true ts)
  behind_count no_trees = refl
  behind_count (tree (External here at name type parameters) ts) = one_each (all_cuts (leading ts)) (all_cuts (behind ts)) (all_cuts ts) (marked (starts true ts)) (behind_count ts)
  behind_count (tree t ts) =
      both_counts (cuts (wrapped t)) (all_cuts (wrapped_all ts)) (cuts t) (all_cuts ts) (marked (inner_starts t)) (marked (starts false ts)) (wrapped_count t) (list_counts ts (behind_count ts))
      ∙ ap (λ n. (cuts t + all_cuts ts) + n) (sym (marked_append (inner_starts t) (starts false ts)))

wrapped_counts : (wrap : Bool) (ts : Trees) (places : List Place) → all_cuts ts ≡ length places → all_cuts (wrapped_where wrap ts) ≡ length (placed_where wrap ts places)
wrapped_counts false ts places e = e
wrapped_counts true ts places e =
    list_counts ts (behind_count ts) ∙ ap (λ n. n + marked (starts false ts)) e ∙ sym (more_places (starts false ts) places (starts_length false ts ∙ e))

-- as many terms in the term lists of a formed program's core as its plans have places
pub core_count : (shorten : Bool) (also : AbsolutePath → Bool) (wrap fold : Bool) (width : Width) (ps : Plans) → AreFormed (Unit {0}) AreNamed (Unit {0}) (Unit {0}) (numbered_all 0 ps) → AreNear (numbered_all 0 ps)
    → all_cuts (core_beside shorten also (wrapped_where wrap (folded_where fold width (named_all (without_switches (formed_all (numbered_all 0 ps)))))))
    ≡ length (placed_where wrap (folded_where fold width (named_all (without_switches (formed_all (numbered_all 0 ps))))) (core_places ps))
unfolding core_places
core_count shorten also wrap fold width ps h near =
    let terms = formed_all (numbered_all 0 ps) in
    let loops = without_switches terms in
    let lowered = folded_where fold width (named_all loops) in
    let program = wrapped_where wrap lowered in
    let stands : StandAll (formed_plans ps) terms = formed_stand ps (numbered_all 0 ps) (numbered_stand 0 ps) in
    let formed : FormedTerms terms = forms_formed AreNamed (Unit {0}) (Unit {0}) (numbered_all 0 ps) h near in
    spelled_counts shorten also (is_known (known_of program)) (says_of program) program []
    ∙ wrapped_counts wrap lowered (core_places_in false [] ps)
    (where_counts fold width (named_all loops) ∙ named_counts loops ∙ stand_count (formed_plans ps) terms stands formed (plan_of terms) 0 false
    ∙ ap length (core_formed ps (numbered_all 0 ps) (numbered_stand 0 ps) h near))
