-- A signature is ASCII.
use Rattle.std.proofs.Common.{◌≡◌, ℕ, zero, suc, ◌+◌, ◌<◌, ◌&&◌, ◌||◌, Bool, true, false, cond, nat_lt, ◌==◌, List, [], ◌∷◌, length, get_or, IsTrue, codes, take, ◌++◌, ◌⊎◌, inl, inr, refl, sym, ap, subst, ◌∙◌, arith}
use Rattle.std.proofs.lemmas.Grind.{common_steps}
use Rattle.std.proofs.lemmas.List.Folds.{list_all-map}
use Rattle.std.specs.List.{list_all}
use Rattle.std.specs.Cmp.Lexicographic.{bytes_decides}
use Rattle.std.proofs.lemmas.List.{take_more, get_or-map, length-map}
use Rattle.std.specs.Char.{to_ascii_lowercase}
use Rattle.std.specs.Str.{bytes_eq}
use Rattle.acpi_extract.specs.Lines.{is_signature_byte, is_signature}
use Rattle.acpi_extract.specs.Dump.{lower, stem_of}

lower_small : (c : ℕ) → is_signature_byte c ≡ true → nat_lt (to_ascii_lowercase c) 128 ≡ true
lower_small c h = grind (arith, common_steps)

and_split : (a b : Bool) → (a && b) ≡ true → (a ≡ true) × (b ≡ true)
and_split true b h = (refl, h)
and_split false b h = absurd cc

or_split : (a b : Bool) → IsTrue (a || b) → (a ≡ true) ⊎ (b ≡ true)
or_split true b h = inl refl
or_split false true h = inr refl
or_split false false h = absurd cc

all_small : (text : List ℕ) → list_all is_signature_byte text ≡ true → list_all (λ c. nat_lt (to_ascii_lowercase c) 128) text ≡ true
all_small [] h = refl
all_small (c ∷ cs) h =
    let both = and_split (is_signature_byte c) (list_all is_signature_byte cs) h in
    rw (lower_small c both.0) (all_small cs both.1)

each_small : (text : List ℕ) → list_all (λ c. nat_lt c 128) text ≡ true → (i : ℕ) → get_or text i 0 < 128
each_small [] h i = omega arith
each_small (c ∷ cs) h zero = let one : nat_lt c 128 ≡ true = (and_split (nat_lt c 128) (list_all (λ x. nat_lt x 128) cs) h).0 in grind (arith, common_steps)
each_small (c ∷ cs) h (suc i) = each_small cs (and_split (nat_lt c 128) (list_all (λ x. nat_lt x 128) cs) h).1 i

named : (signature : List ℕ) → IsTrue (is_signature signature) → bytes_eq (lower signature) (codes "rsd ptr") ≡ false → list_all is_signature_byte signature ≡ true
named signature h e =
    let whole : Bool = length signature == 4 && list_all is_signature_byte signature in
    let other : Bool = bytes_eq signature (codes "RSD PTR") in
    elim (or_split whole other h) [
      | inl a ↦ (and_split (length signature == 4) (list_all is_signature_byte signature) a).1
      | inr b ↦ absurd (
          let same : signature ≡ codes "RSD PTR" = (bytes_decides signature (codes "RSD PTR")).0 b in
          let not : bytes_eq (lower (codes "RSD PTR")) (codes "rsd ptr") ≡ false = subst (λ (s : List ℕ). bytes_eq (lower s) (codes "rsd ptr") ≡ false) same e in
          let yes : true ≡ false = not in
          cc)
    ]

stem_small : (signature : List ℕ) → IsTrue (is_signature signature) → list_all (λ c. nat_lt c 128) (stem_of signature) ≡ true
stem_small signature h =
    elim (bytes_eq (lower signature) (codes "rsd ptr")) as (λ b. bytes_eq (lower signature) (codes "rsd ptr") ≡ b → list_all (λ c. nat_lt c 128) (cond b (codes "rsdp") (lower signature)) ≡ true) [
      | true ↦ λ e. refl
      | false ↦ λ e. list_all-map (λ c. nat_lt c 128) to_ascii_lowercase signature ∙ all_small signature (named signature h e)
    ] refl

pub stem_ascii : (signature : List ℕ) → IsTrue (is_signature signature) → (i : ℕ) → get_or (stem_of signature) i 0 < 128
stem_ascii signature h i = each_small (stem_of signature) (stem_small signature h) i

-- one more letter of the stem
pub stem_step : (text whole bytes more encoded : List ℕ) (i letter : ℕ) → lower text ≡ whole → ((k : ℕ) → get_or whole k 0 < 128) → i < length text → letter ≡ to_ascii_lowercase (get_or text i 0) → (letter < 128 → encoded ≡ letter ∷ []) → bytes ≡ take i whole → more ≡ bytes ++ encoded → more ≡ take (i + 1) whole
stem_step text whole bytes more encoded i letter low small h e ascii f g =
    let at : get_or whole i 0 ≡ letter = ap (λ (xs : List ℕ). get_or xs i 0) (sym low) ∙ get_or-map to_ascii_lowercase text i 0 0 h ∙ sym e in
    let one : encoded ≡ letter ∷ [] = ascii (subst (λ (n : ℕ). n < 128) at (small i)) in
    let len : i < length whole = omega (arith, length-map text to_ascii_lowercase, ap length low) in
    let next : take (i + 1) whole ≡ take i whole ++ get_or whole i 0 ∷ [] = take_more whole i 0 len in
    cc
