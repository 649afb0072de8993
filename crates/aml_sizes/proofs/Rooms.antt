-- Pieces without their bytes, from the last to the first.
use Rattle.std.proofs.Common.{◌≡◌, List, [], ◌∷◌, ◌++◌, map, reverse, refl, sym, ap, ◌∙◌}
use Rattle.std.specs.Prelude.{Result, Ok, Err, OnOk}
use Rattle.std.proofs.lemmas.List.{map-append, reverse-append, reverse-reverse}
use Rattle.iasl_messages.specs.declared.place.Piece.{Piece}
use Rattle.aml_sizes.specs.Rooms.{blank, size_of, blanks, sizes}

-- what two clauses say where a call succeeds
pub on_ok_with : {T E P Q R : Type 0} (r : Result T E) → (P → Q → R) → OnOk r P → OnOk r Q → OnOk r R
on_ok_with (Ok x) f p q = f p q
on_ok_with (Err e) f p q = tt

pub on_ok_then : {T E P : Type 0} (Q : Type 0) (r : Result T E) → (P → OnOk r Q) → OnOk r P → OnOk r Q
on_ok_then Q (Ok x) f p = f p
on_ok_then Q (Err e) f p = tt

pub on_ok_always : {T E P : Type 0} (r : Result T E) → P → OnOk r P
on_ok_always (Ok x) p = p
on_ok_always (Err e) p = tt

-- pieces from the last to the first
pub blanks_append : (front bs : List Piece) → blanks (front ++ bs) ≡ blanks bs ++ blanks front
blanks_append front bs = ap (map blank) (reverse-append front bs) ∙ map-append blank (reverse bs) (reverse front)

pub sizes_append : (front bs : List Piece) → sizes (front ++ bs) ≡ sizes bs ++ sizes front
sizes_append front bs = ap (map size_of) (reverse-append front bs) ∙ map-append size_of (reverse bs) (reverse front)

reverse_map : {X : Type 0} (f : Piece → X) (ps : List Piece) → reverse (map f ps) ≡ map f (reverse ps)
reverse_map f [] = refl
reverse_map f (p ∷ ps) =
    reverse-append (f p ∷ []) (map f ps) ∙ ap (λ xs. xs ++ f p ∷ []) (reverse_map f ps)
    ∙ sym (ap (map f) (reverse-append (p ∷ []) ps) ∙ map-append f (reverse ps) (p ∷ []))

-- pieces from the last to the first, and one more, turned round
pub turned : {X : Type 0} (f : Piece → X) (ps : List Piece) (x : X) → reverse (map f (reverse ps) ++ x ∷ []) ≡ x ∷ map f ps
turned f ps x = reverse-append (map f (reverse ps)) (x ∷ []) ∙ ap (λ xs. x ∷ xs) (reverse_map f (reverse ps) ∙ ap (map f) (reverse-reverse ps))
