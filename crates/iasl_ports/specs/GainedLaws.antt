-- What follows from gains.
use Rattle.std.specs.Prelude.{◌≡◌, ℕ, ◌+◌, List, [], ◌∷◌, ◌++◌, length, take, drop, None, Some, refl}
use Rattle.std.specs.declared.option.Option.{Option}
use Rattle.std.specs.List.{zip}
use Rattle.std.proofs.Common.{arith, ◌∙◌, ap, sym, subst, append_assoc, append-nil}
use Rattle.std.proofs.Math.Seq.{take-add, take-append_seam}
use Rattle.iasl_ports.specs.Gained.{GrewBy, Gains}

grew_none : {X : Type 0} (told : Option (List X)) → GrewBy told told []
grew_none None = tt
grew_none (Some xs) = sym (append-nil xs)

grew_then : {X : Type 0} (a b c : Option (List X)) (xs ys : List X) → GrewBy a b xs → GrewBy b c ys → GrewBy a c (xs ++ ys)
grew_then None b c xs ys p q = tt
grew_then (Some u) None c xs ys p q = absurd p
grew_then (Some u) (Some v) None xs ys p q = absurd q
grew_then (Some u) (Some v) (Some w) xs ys p q = q ∙ ap (λ t. t ++ ys) p ∙ append_assoc u xs ys

pub gains_none : {X : Type 0} (told : Option (List X)) → Gains told told []
gains_none told = record { grew = grew_none told }

pub gains_then : {X : Type 0} {a b c : Option (List X)} {xs ys : List X} → Gains a b xs → Gains b c ys → Gains a c (xs ++ ys)
gains_then {X} {a} {b} {c} {xs} {ys} p q = record { grew = grew_then a b c xs ys p.grew q.grew }

-- a part of a list, and then a part of its rest
pub gains_next : {X : Type 0} {a b c : Option (List X)} (all : List X) (n m : ℕ) → Gains a b (take n all) → Gains b c (take m (drop n all))
    → Gains a c (take (n + m) all)
gains_next {X} {a} {b} {c} all n m p q = rw take-add (gains_then p q)

-- nothing more
pub gains_still : {X : Type 0} {a b c : Option (List X)} {xs : List X} → Gains a b xs → Gains b c [] → Gains a c xs
gains_still {X} {a} {b} {c} {xs} p q = let Q : List X → Type 0 = λ t. Gains a c t in subst Q (append-nil xs) (gains_then p q)

pub take_seam : {X : Type 0} (xs ys zs : List X) → zs ≡ xs ++ ys → take (length xs) zs ≡ xs
take_seam xs ys zs e = ap (take (length xs)) e ∙ take-append_seam xs ys

pub zip_push : {X Y : Type 0} (ks : List X) (vs : List Y) (k : X) (v : Y) → length vs ≡ length ks →
    zip (ks ++ k ∷ []) (vs ++ v ∷ []) ≡ zip ks vs ++ (k, v) ∷ []
zip_push [] [] k v e = refl
zip_push [] (w ∷ vs) k v e = absurd (omega (arith, e))
zip_push (x ∷ ks) [] k v e = absurd (omega (arith, e))
zip_push (x ∷ ks) (w ∷ vs) k v e = ap (λ r. (x, w) ∷ r) (zip_push ks vs k v (omega (arith, e)))
