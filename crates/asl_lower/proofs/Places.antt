-- The places of terms that are lowered are those of the terms.
use Rattle.std.proofs.Common.{◌≡◌, Bool, true, false, List, [], Vec, Global, refl, sym, ap, ◌∙◌}
use Rattle.std.specs.Prelude.{if◌then◌else◌}
use Rattle.iasl_messages.specs.declared.place.Place.{Place}
use Rattle.asl_tree.specs.declared.term.Op.{Op}
use Rattle.asl_tree.specs.declared.term.Symbolic.{Symbolic}
use Rattle.asl_tree.specs.declared.term.Node.{Node}
use Rattle.asl_tree.specs.declared.term.Term.{Term}
use Rattle.asl_tree.specs.declared.term.Term as D
use Rattle.term_places.specs.Places.{holds_terms, inner_places, places_of}
use Rattle.term_places.proofs.Places.{form_places}

-- a call has no terms in braces
pub call_stays : (t : Term) (path : _) (args made : Vec Node Global) → t ≡ D.Call path args → inner_places (D.Call path made) ≡ inner_places t
unfolding inner_places
call_stays t path args made e = sym (ap inner_places e)

pub form_stays : (t : Term) (op new : Op) (args body made more : Vec Node Global) → t ≡ D.Form op args body
    → (if holds_terms new then places_of more.items else []) ≡ (if holds_terms op then places_of body.items else []) → inner_places (D.Form new made more) ≡ inner_places t
form_stays t op new args body made more e h = form_places new made more ∙ h ∙ sym (form_places op args body) ∙ ap inner_places (sym e)

-- the terms in the braces of a form that stays
pub kept_stays : (op : Op) (xs ys : List Place) → (holds_terms op ≡ true → xs ≡ ys) → (if holds_terms op then xs else []) ≡ (if holds_terms op then ys else [])
kept_stays op xs ys h = by_holds (holds_terms op) h
  where
    by_holds : (c : Bool) → (c ≡ true → xs ≡ ys) → (if c then xs else []) ≡ (if c then ys else [])
    by_holds true h = h refl
    by_holds false h = refl

-- a symbol, and what it becomes, hold none
pub symbol_stays : (op new : Op) (symbol : Symbolic) (xs ys : List Place) → op ≡ Op.Symbolic symbol → holds_terms new ≡ false → (if holds_terms new then xs else []) ≡ (if holds_terms op then ys else [])
symbol_stays op new symbol xs ys e h = ap (λ c. if c then xs else []) h ∙ sym (ap (λ o. if holds_terms o then ys else []) e)
