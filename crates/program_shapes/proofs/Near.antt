-- Where nothing is wrong with statements, no Continue of a For stands in a container in it.
use Rattle.std.proofs.Common.{◌≡◌, ℕ, suc, ◌+◌, Bool, true, false, List, [], ◌∷◌, ◌++◌, refl, ap, ◌∙◌}
use Rattle.std.specs.Prelude.{◌&&◌, ◌||◌, not}
use Rattle.iasl_messages.specs.declared.place.Place.{Place}
use Rattle.asl_tree.specs.declared.term.Op.{Op}
use Rattle.asl_tree.specs.declared.term.Declaration.TheVariants as Declaration
use Rattle.asl_tree.specs.declared.term.Control.TheVariants as Control
use Rattle.asl_tree.specs.declared.path.Path.{Path}
use Rattle.asl_tree.specs.Tree.{At, Use, Trees, no_trees, tree}
use Rattle.asl_meaning.specs.Continues.{has_continue, have_continue}
use Rattle.asl_prints.specs.Forms.{has_far_continue, have_far_continue}
use Rattle.asl_prints.specs.Nodes.{is_continue, none_in}
use Rattle.asl_prints.specs.Fits.{are, is_named_with, braced, braces_in, leaves, leaves_far}
use Rattle.asl_prints.proofs.Continuing.{left_form}
use Rattle.asl_prints.proofs.FarContinuing.{far_form}
use Rattle.term_plans.specs.Plans.{Plan, a_form, Plans, no_plans, plan}
use Rattle.asl_numbers.specs.Numbers.{inside, nodes, numbered, numbered_all}
use Rattle.statement_checks.specs.declared.check.Around.{Around}
use Rattle.statement_checks.specs.Statements.{around_body, misses_loop, told, loop_errors, term_errors, statement_errors, outside, errors_of_statements}
use Rattle.form_shapes.specs.Near.{IsNear, AreNear}
use Rattle.form_shapes.proofs.NearForms.{is_for, near_form}

first_none : {A : Type 0} (xs ys : List A) → xs ++ ys ≡ [] → xs ≡ []
first_none [] ys e = refl
first_none (x ∷ xs) ys e = absurd cc

last_none : {A : Type 0} (xs ys : List A) → xs ++ ys ≡ [] → ys ≡ []
last_none [] ys e = e
last_none (x ∷ xs) ys e = absurd cc

both_false : (a b : Bool) → a ≡ false → b ≡ false → (a || b) ≡ false
both_false false b e f = f
both_false true b e f = absurd cc

untold : (wrong : Bool) (place : Place) → told wrong 6052 place ≡ [] → wrong ≡ false
untold true place e = absurd cc
untold false place e = refl

-- ---- what is wrong with a form is wrong with its braces

module _ (around : Around) (place : Place) (op : Op) (args body : Plans) (e : term_errors around place (a_form op args body) ≡ []) where
  none_missed : misses_loop op around ≡ false
  none_missed = untold (misses_loop op around) place (first_none (loop_errors around place op) (statement_errors around args ++ statement_errors (around_body op args around) body) e)

  none_inside : statement_errors (around_body op args around) body ≡ []
  none_inside =
      last_none (statement_errors around args) (statement_errors (around_body op args around) body)
      (last_none (loop_errors around place op) (statement_errors around args ++ statement_errors (around_body op args around) body) e)

-- a name
abbrev here : Path
here = record { root = false; up = 0; segs = [] }

-- whether the braces of a form may be left by a Continue
abbrev are_open : Op → Bool
are_open (Op.Declaration Declaration.Device) = true
are_open (Op.Declaration Declaration.ThermalZone) = true
are_open (Op.Declaration Declaration.Scope) = true
are_open (Op.Declaration Declaration.PowerResource) = true
are_open (Op.Declaration Declaration.Processor) = true
are_open (Op.Control Control.If) = true
are_open (Op.Control Control.ElseIf) = true
are_open (Op.Control Control.Else) = true
are_open (Op.Control Control.Switch) = true
are_open (Op.Control Control.Case) = true
are_open (Op.Control Control.Default) = true
are_open op = false

-- a Continue leaves braces from inside, those of a container or of another form that has them, or none does
module _ (itself : Bool) (body : Trees) (e : itself ≡ false) where
  scope_none : (at : At) (c : Bool) → have_continue body ≡ false → leaves (braced c (braces_in (Op.Declaration Declaration.Scope) (tree (Use at here) no_trees))) itself body ≡ false
  scope_none at true h = h
  scope_none at false h = e

  open_none : (c : Bool) → have_continue body ≡ false → leaves (braced c (braces_in (Op.Control Control.Else) no_trees)) itself body ≡ false
  open_none true h = h
  open_none false h = e

  none_leaves : (at : At) (op : Op) (ts : Trees) → (are_open op ≡ true → have_continue body ≡ false) → leaves (braces_in op ts) itself body ≡ false
  none_leaves at (Op.Declaration Declaration.Device) ts h = scope_none at (is_named_with 0 ts) (h refl)
  none_leaves at (Op.Declaration Declaration.ThermalZone) ts h = scope_none at (is_named_with 0 ts) (h refl)
  none_leaves at (Op.Declaration Declaration.Scope) ts h = scope_none at (is_named_with 0 ts) (h refl)
  none_leaves at (Op.Declaration Declaration.PowerResource) ts h = scope_none at (is_named_with 2 ts) (h refl)
  none_leaves at (Op.Declaration Declaration.Processor) ts h = scope_none at (is_named_with 3 ts) (h refl)
  none_leaves at (Op.Control Control.If) ts h = open_none (are 1 ts) (h refl)
  none_leaves at (Op.Control Control.ElseIf) ts h = open_none (are 1 ts) (h refl)
  none_leaves at (Op.Control Control.Else) ts h = open_none (are 0 ts) (h refl)
  none_leaves at (Op.Control Control.Switch) ts h = open_none (are 1 ts) (h refl)
  none_leaves at (Op.Control Control.Case) ts h = open_none (are 1 ts) (h refl)
  none_leaves at (Op.Control Control.Default) ts h = open_none (are 0 ts) (h refl)
  none_leaves at op ts h = e

-- inside a For, and in the braces of a container there, where its step is hidden
record IsHidden (around : Around) : Type 0 where
  held : around.in_for ≡ true
  far : around.far ≡ true

hidden_body : (op : Op) (args : Plans) (around : Around) → are_open op ≡ true → IsHidden around → IsHidden (around_body op args around)
hidden_body (Op.Declaration Declaration.Device) args around e h = record { held = h.held; far = h.held }
hidden_body (Op.Declaration Declaration.ThermalZone) args around e h = record { held = h.held; far = h.held }
hidden_body (Op.Declaration Declaration.Scope) args around e h = record { held = h.held; far = h.held }
hidden_body (Op.Declaration Declaration.PowerResource) args around e h = record { held = h.held; far = h.held }
hidden_body (Op.Declaration Declaration.Processor) args around e h = record { held = h.held; far = h.held }
hidden_body (Op.Control Control.If) args around e h = h
hidden_body (Op.Control Control.ElseIf) args around e h = h
hidden_body (Op.Control Control.Else) args around e h = h
hidden_body (Op.Control Control.Switch) args around e h = record { held = h.held; far = h.far }
hidden_body (Op.Control Control.Case) args around e h = h
hidden_body (Op.Control Control.Default) args around e h = h
hidden_body op args around e h = absurd cc

missed_far : (a b : Bool) → b ≡ true → (a || b) ≡ false → ⊥
missed_far true b e f = absurd cc
missed_far false true e f = absurd cc
missed_far false false e f = absurd cc

-- there no Continue stands
no_continue : (op : Op) (around : Around) → IsHidden around → misses_loop op around ≡ false → is_continue op ≡ false
no_continue (Op.Control Control.Continue) around h e = absurd (missed_far (not around.in_loop) around.far h.far e)
no_continue op around h e = refl

mutual
  unfolding numbered numbered_all

  hidden_term : (at : At) (next : ℕ) (around : Around) (place : Place) (p : Plan) → IsHidden around → term_errors around place p ≡ [] → has_continue (numbered at next p) ≡ false
  hidden_term at next around place (a_form op args body) h e =
      let inner = next + nodes args in
      let ts = numbered_all next args in
      let us = numbered_all inner body in
      let itself : (is_continue op && (none_in ts && none_in us)) ≡ false = ap (λ c. c && (none_in ts && none_in us)) (no_continue op around h (none_missed around place op args body e)) in
      left_form at op ts us
      ∙ none_leaves (is_continue op && (none_in ts && none_in us)) us itself at op ts
      (λ o. hidden_terms inner (around_body op args around) body (hidden_body op args around o h) (none_inside around place op args body e))
  hidden_term at next around place p h e = refl

  hidden_terms : (next : ℕ) (around : Around) (ps : Plans) → IsHidden around → statement_errors around ps ≡ [] → have_continue (numbered_all next ps) ≡ false
  hidden_terms next around no_plans h e = refl
  hidden_terms next around (plan place p ps) h e =
      both_false (has_continue (numbered (record { id = next; place = place }) (suc next) p)) (have_continue (numbered_all (suc (next + inside p)) ps))
      (hidden_term (record { id = next; place = place }) (suc next) around place p h (first_none (term_errors around place p) (statement_errors around ps) e))
      (hidden_terms (suc (next + inside p)) around ps h (last_none (term_errors around place p) (statement_errors around ps) e))

-- ---- inside a For

scope_far : (at : At) (c : Bool) (body : Trees) → have_continue body ≡ false → leaves_far (braced c (braces_in (Op.Declaration Declaration.Scope) (tree (Use at here) no_trees))) body ≡ false
scope_far at true body e = e
scope_far at false body e = refl

open_far : (c : Bool) (body : Trees) → have_far_continue body ≡ false → leaves_far (braced c (braces_in (Op.Control Control.Else) no_trees)) body ≡ false
open_far true body e = e
open_far false body e = refl

-- no Continue leaves a form there from a container's braces, where none leaves its own
none_far : (at : At) (op : Op) (args : Plans) (around : Around) (ts body : Trees) → around.in_for ≡ true → (IsHidden (around_body op args around) → have_continue body ≡ false)
    → ((around_body op args around).in_for ≡ true → have_far_continue body ≡ false) → leaves_far (braces_in op ts) body ≡ false
none_far at (Op.Declaration Declaration.Device) args around ts body f hidden held = scope_far at (is_named_with 0 ts) body (hidden (record { held = f; far = f }))
none_far at (Op.Declaration Declaration.ThermalZone) args around ts body f hidden held = scope_far at (is_named_with 0 ts) body (hidden (record { held = f; far = f }))
none_far at (Op.Declaration Declaration.Scope) args around ts body f hidden held = scope_far at (is_named_with 0 ts) body (hidden (record { held = f; far = f }))
none_far at (Op.Declaration Declaration.PowerResource) args around ts body f hidden held = scope_far at (is_named_with 2 ts) body (hidden (record { held = f; far = f }))
none_far at (Op.Declaration Declaration.Processor) args around ts body f hidden held = scope_far at (is_named_with 3 ts) body (hidden (record { held = f; far = f }))
none_far at (Op.Control Control.If) args around ts body f hidden held = open_far (are 1 ts) body (held f)
none_far at (Op.Control Control.ElseIf) args around ts body f hidden held = open_far (are 1 ts) body (held f)
none_far at (Op.Control Control.Else) args around ts body f hidden held = open_far (are 0 ts) body (held f)
none_far at (Op.Control Control.Switch) args around ts body f hidden held = open_far (are 1 ts) body (held f)
none_far at (Op.Control Control.Case) args around ts body f hidden held = open_far (are 1 ts) body (held f)
none_far at (Op.Control Control.Default) args around ts body f hidden held = open_far (are 0 ts) body (held f)
none_far at op args around ts body f hidden held = refl

mutual
  unfolding numbered numbered_all

  held_term : (at : At) (next : ℕ) (around : Around) (place : Place) (p : Plan) → around.in_for ≡ true → term_errors around place p ≡ [] → has_far_continue (numbered at next p) ≡ false
  held_term at next around place (a_form op args body) f e =
      let inner = next + nodes args in
      let none = none_inside around place op args body e in
      far_form at op (numbered_all next args) (numbered_all inner body)
      ∙ none_far at op args around (numbered_all next args) (numbered_all inner body) f (λ h. hidden_terms inner (around_body op args around) body h none) (λ g. held_terms inner (around_body op args around) body g none)
  held_term at next around place p f e = refl

  held_terms : (next : ℕ) (around : Around) (ps : Plans) → around.in_for ≡ true → statement_errors around ps ≡ [] → have_far_continue (numbered_all next ps) ≡ false
  held_terms next around no_plans f e = refl
  held_terms next around (plan place p ps) f e =
      both_false (has_far_continue (numbered (record { id = next; place = place }) (suc next) p)) (have_far_continue (numbered_all (suc (next + inside p)) ps))
      (held_term (record { id = next; place = place }) (suc next) around place p f (first_none (term_errors around place p) (statement_errors around ps) e))
      (held_terms (suc (next + inside p)) around ps f (last_none (term_errors around place p) (statement_errors around ps) e))

-- ---- anywhere

for_body : (op : Op) (args : Plans) (around : Around) → is_for op ≡ true → (around_body op args around).in_for ≡ true
for_body (Op.Control Control.For) args around e = refl
for_body op args around e = absurd cc

mutual
  unfolding numbered numbered_all

  near_term : (at : At) (next : ℕ) (around : Around) (place : Place) (p : Plan) → term_errors around place p ≡ [] → IsNear (numbered at next p)
  near_term at next around place (a_form op args body) e =
      let inner = next + nodes args in
      let none = none_inside around place op args body e in
      near_form at op (numbered_all next args) (numbered_all inner body) (near_terms inner (around_body op args around) body none)
      (λ is. held_terms inner (around_body op args around) body (for_body op args around is) none)
  near_term at next around place p e = tt

  near_terms : (next : ℕ) (around : Around) (ps : Plans) → statement_errors around ps ≡ [] → AreNear (numbered_all next ps)
  near_terms next around no_plans e = tt
  near_terms next around (plan place p ps) e =
      (near_term (record { id = next; place = place }) (suc next) around place p (first_none (term_errors around place p) (statement_errors around ps) e), near_terms (suc (next + inside p)) around ps (last_none (term_errors around place p) (statement_errors around ps) e))

pub plans_near : (next : ℕ) (ps : Plans) → errors_of_statements ps ≡ [] → AreNear (numbered_all next ps)
plans_near next ps e = near_terms next outside ps e
