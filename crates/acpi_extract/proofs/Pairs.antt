-- The pairs behind a colon, by how much of the text is left.
use Rattle.std.proofs.Common.{◌≡◌, ℕ, zero, suc, ◌-◌, ◌<◌, ◌≤◌, ◌&&◌, true, false, cond, nat_lt, List, [], ◌∷◌, length, take, drop, get_or, Option, Some, None, refl, ap, ◌∙◌, ◌++◌, arith, length-drop, append_assoc}
use Rattle.std.specs.Option.{option_map}
use Rattle.std.proofs.lemmas.Grind.{common_steps}
use Rattle.std.proofs.lemmas.List.{take_all}
use Rattle.hex_text.specs.Blanks.{is_blank}
use Rattle.hex_text.specs.Digits.{byte_of}
use Rattle.acpi_extract.specs.Rows.{pairs_of, with_first}

pub pairs_one : (room : ℕ) (text : List ℕ) → 1 ≤ length text → length text < 2 → pairs_of room text ≡ None
pairs_one room [] h k = absurd (omega arith)
pairs_one room (a ∷ []) h k = refl
pairs_one room (a ∷ b ∷ rest) h k = absurd (omega arith)

pub pairs_two : (room : ℕ) (text : List ℕ) → 2 ≤ length text → (is_blank (get_or text 0 0) && is_blank (get_or text 1 0)) ≡ true → pairs_of room text ≡ Some []
pairs_two room [] h e = absurd (omega arith)
pairs_two room (a ∷ []) h e = absurd (omega arith)
pairs_two room (a ∷ b ∷ []) h e = rw e refl
pairs_two zero (a ∷ b ∷ c ∷ rest) h e = rw e refl
pairs_two (suc room) (a ∷ b ∷ c ∷ rest) h e = rw e refl

pub pairs_three : (room : ℕ) (text : List ℕ) → 3 ≤ length text → (is_blank (get_or text 0 0) && is_blank (get_or text 1 0)) ≡ false → pairs_of room text ≡ cond (is_blank (get_or text 0 0) && nat_lt 0 room) (with_first (byte_of (get_or text 1 0) (get_or text 2 0)) (pairs_of (room - 1) (drop 3 text))) None
pairs_three room [] h e = absurd (omega arith)
pairs_three room (a ∷ []) h e = absurd (omega arith)
pairs_three room (a ∷ b ∷ []) h e = absurd (omega arith)
pairs_three zero (a ∷ b ∷ c ∷ rest) h e = rw e (elim (is_blank a) as (λ t. None ≡ cond (t && false) (with_first (byte_of b c) (pairs_of 0 rest)) None) [ true ↦ refl | false ↦ refl ])
pairs_three (suc room) (a ∷ b ∷ c ∷ rest) h e =
    let less : suc room - 1 ≡ room = omega arith in
    let some : nat_lt 0 (suc room) ≡ true = grind arith in
    rw (e, some, less) (elim (is_blank a) as (λ t. cond t (with_first (byte_of b c) (pairs_of room rest)) None ≡ cond (t && true) (with_first (byte_of b c) (pairs_of room rest)) None) [ true ↦ refl | false ↦ refl ])

pub pairs_short : (room : ℕ) (text : List ℕ) → length text ≡ 2 → (is_blank (get_or text 0 0) && is_blank (get_or text 1 0)) ≡ false → pairs_of room text ≡ None
pairs_short room [] h e = absurd (omega arith)
pairs_short room (a ∷ []) h e = absurd (omega arith)
pairs_short room (a ∷ b ∷ []) h e = rw e refl
pairs_short room (a ∷ b ∷ c ∷ rest) h e = absurd (omega arith)

pub pair_found : (room byte : ℕ) (text : List ℕ) → 3 ≤ length text → (is_blank (get_or text 0 0) && is_blank (get_or text 1 0)) ≡ false → (is_blank (get_or text 0 0) && nat_lt 0 room) ≡ true → byte_of (get_or text 1 0) (get_or text 2 0) ≡ Some byte → (0 < room) × (pairs_of room text ≡ with_first (Some byte) (pairs_of (room - 1) (take (length text - 3) (drop 3 text))))
pair_found room byte text h e may found =
    let all : take (length text - 3) (drop 3 text) ≡ drop 3 text = take_all (length text - 3) (drop 3 text) (omega (arith, length-drop {A = ℕ})) in
    (grind (arith, common_steps), pairs_three room text h e ∙ (rw (may, found, all) refl))

-- a byte that was added to those before is the first of those that follow
pub push_pair : (bytes more : List ℕ) (byte : ℕ) (all rest : Option (List ℕ)) → more ≡ bytes ++ byte ∷ [] → all ≡ with_first (Some byte) rest → option_map (λ ys. more ++ ys) rest ≡ option_map (λ ys. bytes ++ ys) all
push_pair bytes more byte all None e f = rw f refl
push_pair bytes more byte all (Some xs) e f = rw f (rw e (ap Some (append_assoc bytes (byte ∷ []) xs)))
