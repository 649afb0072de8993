-- Flags that say at which numbers a table has entries.
use Rattle.std.proofs.Common.{◌≡◌, ℕ, ◌+◌, ◌<◌, ◌≤◌, Bool, true, false, List, [], ◌∷◌, ◌++◌, length, get_or, Option, None, is_some, refl, sym, ap, ◌∙◌, arith}
use Rattle.std.specs.Prelude.{nat_lt}
use Rattle.std.proofs.lemmas.Bool.Decides.{nat_tests}
use Rattle.std.proofs.lemmas.List.{get_or_append_left}

last_flag : (flags : List Bool) (b : Bool) → get_or (flags ++ b ∷ []) (length flags) false ≡ b
last_flag [] b = refl
last_flag (flag ∷ flags) b = last_flag flags b

-- one flag more
pub noted_next : {A : Type 0} (flags more : List Bool) (table : List (Option A)) (number : ℕ) (b : Bool) → length flags ≡ number → more ≡ flags ++ b ∷ [] → b ≡ is_some (get_or table number None)
    → ((n : ℕ) → n < number → get_or flags n false ≡ is_some (get_or table n None)) → (n : ℕ) → n < number + 1 → get_or more n false ≡ is_some (get_or table n None)
noted_next flags more table number b size is here before n below = ap (λ fs. get_or fs n false) is ∙ by_less (nat_lt n number) refl
  where
    by_less : (c : Bool) → nat_lt n number ≡ c → get_or (flags ++ b ∷ []) n false ≡ is_some (get_or table n None)
    by_less true c =
        let less : n < number = grind (arith, nat_tests, c) in
        get_or_append_left flags (b ∷ []) false n (omega (arith, less, size)) ∙ before n less
    by_less false c =
        let least : number ≤ n = grind (arith, nat_tests, c) in
        let same : n ≡ number = omega (arith, least, below) in
        ap (λ k. get_or (flags ++ b ∷ []) k false) (same ∙ sym size) ∙ last_flag flags b ∙ here ∙ ap (λ k. is_some (get_or table k None)) (sym same)
