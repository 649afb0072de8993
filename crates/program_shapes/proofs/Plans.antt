-- What a plan says of its tree.
use Rattle.std.proofs.Common.{◌≡◌, ◌⊎◌, inl, inr, ℕ, suc, ◌+◌, Bool, true, false, List, [], ◌∷◌, refl, sym, ap, subst}
use Rattle.std.specs.Prelude.{not, ◌&&◌, if◌then◌else◌}
use Rattle.iasl_messages.specs.declared.place.Place.{Place}
use Rattle.acpi_state.specs.Forms.{LocalSlot, ArgSlot}
use Rattle.asl_tree.specs.declared.path.Path.{Path}
use Rattle.asl_tree.specs.declared.term.Op.{Op}
use Rattle.asl_tree.specs.declared.term.Word.{Word}
use Rattle.asl_tree.specs.Literals.{word_number}
use Rattle.asl_tree.specs.Tree.{At, Tree, Integer, String, InSlot, Debug, Omitted, Use, Call, Trees, no_trees, tree, count}
use Rattle.asl_tree.specs.View.{form}
use Rattle.asl_numbers.specs.Numbers.{inside, nodes, numbered, numbered_all}
use Rattle.asl_words.specs.declared.operator.Parameter.{Parameter}
use Rattle.asl_words.specs.declared.operator.Slot.{Slot}
use Rattle.term_plans.specs.Plans.{Plan, an_integer, a_text, a_word, a_local, an_arg, debug, omitted, a_name, a_call, a_form, Plans, no_plans, plan, how_many}
use Rattle.program_shapes.proofs.Fits.{Fits, Takes, TreesFit}

-- its tree is such, whatever the numbers of its nodes
abbrev pub PlanAs : (Tree → Type 0) → Plan → Type 0
PlanAs P p = (at : At) (next : ℕ) → P (numbered at next p)

-- their trees are such
abbrev pub PlansAs : (Trees → Type 0) → Plans → Type 0
PlansAs P ps = (next : ℕ) → P (numbered_all next ps)

pub integer_as : (P : Tree → Type 0) (n : ℕ) → P (Integer n) → PlanAs P (an_integer n)
unfolding numbered
integer_as P n h at next = h

pub text_as : (P : Tree → Type 0) (bytes : List ℕ) → P (String bytes) → PlanAs P (a_text bytes)
unfolding numbered
text_as P bytes h at next = h

pub word_as : (P : Tree → Type 0) (w : Word) → P (Integer (word_number w)) → PlanAs P (a_word w)
unfolding numbered
word_as P w h at next = h

pub local_as : (P : Tree → Type 0) (n : ℕ) → P (InSlot (LocalSlot n)) → PlanAs P (a_local n)
unfolding numbered
local_as P n h at next = h

pub arg_as : (P : Tree → Type 0) (n : ℕ) → P (InSlot (ArgSlot n)) → PlanAs P (an_arg n)
unfolding numbered
arg_as P n h at next = h

pub debug_as : (P : Tree → Type 0) → P Debug → PlanAs P debug
unfolding numbered
debug_as P h at next = h

pub omitted_as : (P : Tree → Type 0) → P Omitted → PlanAs P omitted
unfolding numbered
omitted_as P h at next = h

pub name_as : (P : Tree → Type 0) (path : Path) → ((at : At) → P (Use at path)) → PlanAs P (a_name path)
unfolding numbered
name_as P path h at next = h at

pub call_as : (P : Tree → Type 0) (path : Path) (ps : Plans) → ((at : At) (next : ℕ) → P (Call at path (numbered_all next ps))) → PlanAs P (a_call path ps)
unfolding numbered
call_as P path ps h at next = h at next

pub form_as : (P : Tree → Type 0) (op : Op) (ps bs : Plans) → ((at : At) (m n : ℕ) → P (form at op (numbered_all m ps) (numbered_all n bs))) → PlanAs P (a_form op ps bs)
unfolding numbered
form_as P op ps bs h at next = h at next (next + nodes ps)

pub none_as : (P : Trees → Type 0) → P no_trees → PlansAs P no_plans
unfolding numbered_all
none_as P h next = h

pub more_as : (P R : Trees → Type 0) (Q : Tree → Type 0) (place : Place) (p : Plan) (ps : Plans) → ((t : Tree) (ts : Trees) → Q t → R ts → P (tree t ts)) → PlanAs Q p → PlansAs R ps
    → PlansAs P (plan place p ps)
unfolding numbered_all
more_as P R Q place p ps make h k next = make _ _ (h (record { id = next; place = place }) (suc next)) (k (suc (next + inside p)))

-- as many trees as plans
pub count_as : (ps : Plans) → PlansAs (λ ts. count ts ≡ how_many ps) ps
count_as no_plans = none_as (λ ts. count ts ≡ 0) refl
count_as (plan place p ps) = more_as (λ ts. count ts ≡ suc (how_many ps)) (λ ts. count ts ≡ how_many ps) (λ t. Unit {0}) place p ps (λ t ts h k. ap suc k) (λ at next. tt) (count_as ps)

-- ---- arguments

-- a plan fits where it may stand, or is left out
abbrev pub PlanTakes : Bool → Slot → Plan → Type 0
PlanTakes true s p = PlanAs (Fits s) p ⊎ (p ≡ omitted)
PlanTakes false s p = PlanAs (Fits s) p

abbrev pub PlansFit : List Parameter → Plans → Type 0
PlansFit [] no_plans = Unit {0}
PlansFit (q ∷ qs) (plan place p ps) = PlanTakes q.omittable q.slot p × PlansFit qs ps
PlansFit _ _ = ⊥

-- the same, where further arguments may be missing at the end
abbrev pub ArgumentsFit : List Parameter → Plans → Type 0
ArgumentsFit [] no_plans = Unit {0}
ArgumentsFit [] (plan place p ps) = ⊥
ArgumentsFit (q ∷ qs) no_plans = (q.further ≡ true) × ArgumentsFit qs no_plans
ArgumentsFit (q ∷ qs) (plan place p ps) = PlanTakes q.omittable q.slot p × ArgumentsFit qs ps

-- none may be missing
abbrev pub are_asked : List Parameter → Bool
are_asked [] = true
are_asked (q ∷ qs) = not q.further && are_asked qs

pub behind_asked : (a b : Bool) → (not a && b) ≡ true → b ≡ true
behind_asked true b e = absurd cc
behind_asked false b e = e

pub none_missing : (qs : List Parameter) (ps : Plans) → are_asked qs ≡ true → ArgumentsFit qs ps → PlansFit qs ps
none_missing [] no_plans e h = tt
none_missing [] (plan place p ps) e h = absurd h
none_missing (q ∷ qs) no_plans e h = absurd (never q.further (are_asked qs) e h.0)
  where
    never : (a b : Bool) → (not a && b) ≡ true → a ≡ true → ⊥
    never true b e f = absurd cc
    never false b e f = absurd cc
none_missing (q ∷ qs) (plan place p ps) e h = (h.0, none_missing qs ps (behind_asked q.further (are_asked qs) e) h.1)

-- those that may be missing stand behind all others
abbrev pub are_further : List Parameter → Bool
are_further [] = true
are_further (q ∷ qs) = q.further && are_further qs

abbrev pub is_ordered : List Parameter → Bool
is_ordered [] = true
is_ordered (q ∷ qs) = if q.further then are_further qs else is_ordered qs

further_ordered : (qs : List Parameter) → are_further qs ≡ true → is_ordered qs ≡ true
further_ordered [] e = refl
further_ordered (q ∷ qs) e = by q.further e
  where
    by : (b : Bool) → (b && are_further qs) ≡ true → (if b then are_further qs else is_ordered qs) ≡ true
    by true e = e
    by false e = absurd cc

pub behind_ordered : (q : Parameter) (qs : List Parameter) → is_ordered (q ∷ qs) ≡ true → is_ordered qs ≡ true
behind_ordered q qs e = by q.further e
  where
    by : (b : Bool) → (if b then are_further qs else is_ordered qs) ≡ true → is_ordered qs ≡ true
    by true e = further_ordered qs e
    by false e = e

pub asked_ordered : (qs : List Parameter) → are_asked qs ≡ true → is_ordered qs ≡ true
asked_ordered [] e = refl
asked_ordered (q ∷ qs) e = by q.further e (asked_ordered qs (behind_asked q.further (are_asked qs) e))
  where
    by : (b : Bool) → (not b && are_asked qs) ≡ true → is_ordered qs ≡ true → (if b then are_further qs else is_ordered qs) ≡ true
    by true e o = absurd cc
    by false e o = o

pub further_fit : (qs : List Parameter) → are_further qs ≡ true → ArgumentsFit qs no_plans
further_fit [] e = tt
further_fit (q ∷ qs) e = (first q.further (are_further qs) e, further_fit qs (rest q.further (are_further qs) e))
  where
    first : (a b : Bool) → (a && b) ≡ true → a ≡ true
    first true b e = refl
    first false b e = absurd cc

    rest : (a b : Bool) → (a && b) ≡ true → b ≡ true
    rest true b e = e
    rest false b e = absurd cc

takes_as : (b : Bool) (s : Slot) (p : Plan) → PlanTakes b s p → PlanAs (Takes b s) p
takes_as false s p h = h
takes_as true s p (inl h) = λ at next. inl (h at next)
takes_as true s p (inr e) = subst (PlanAs (Takes true s)) (sym e) (omitted_as (Takes true s) (inr refl))

pub fits_as : (qs : List Parameter) (ps : Plans) → PlansFit qs ps → PlansAs (TreesFit qs) ps
fits_as [] no_plans h = none_as (TreesFit []) tt
fits_as [] (plan place p ps) h = absurd h
fits_as (q ∷ qs) no_plans h = absurd h
fits_as (q ∷ qs) (plan place p ps) h = more_as (TreesFit (q ∷ qs)) (TreesFit qs) (Takes q.omittable q.slot) place p ps (λ t ts a b. (a, b)) (takes_as q.omittable q.slot p h.0) (fits_as qs ps h.1)
