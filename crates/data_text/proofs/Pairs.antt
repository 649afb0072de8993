-- One more byte behind those that have been read.
use Rattle.std.proofs.Common.{◌≡◌, ◌+◌, ◌<◌, ℕ, List, [], ◌∷◌, ◌++◌, length, drop, get_or, Option, Some, None, refl, sym, ap, ◌∙◌, append_assoc}
use Rattle.std.proofs.lemmas.List.{at_drop_more}
use Rattle.std.specs.Option.{option_map}
use Rattle.data_text.specs.declared.values.Pair.{Pair}
use Rattle.data_text.specs.declared.values.Pair.TheVariants.{Ready}
use Rattle.data_text.specs.Values.{with_first, bytes_at}

pub push_pair : (bytes more : List ℕ) (byte : ℕ) (all rest : Option (List ℕ)) → more ≡ bytes ++ byte ∷ [] → all ≡ with_first (Some byte) rest → option_map (λ ys. bytes ++ ys) all ≡ option_map (λ ys. more ++ ys) rest
push_pair bytes more byte all None e f = rw f refl
push_pair bytes more byte all (Some xs) e f = rw f (rw e (ap Some (sym (append_assoc bytes (byte ∷ []) xs))))

-- the pairs end where the next byte cannot follow; else they go on behind it
pub ended_at : (pair : Pair) (value bytes : List ℕ) (i : ℕ) → i < length value → ((rest : List ℕ) → bytes_at pair (get_or value i 0 ∷ rest) ≡ None) → option_map (λ more. bytes ++ more) (bytes_at pair (drop i value)) ≡ bytes_at Ready value → None ≡ bytes_at Ready value
ended_at pair value bytes i h none inv =
    ap (option_map (λ more. bytes ++ more)) (sym (at_drop_more (bytes_at pair) value i 0 h ∙ none (drop (i + 1) value))) ∙ inv

pub goes_on : (pair next : Pair) (value bytes after : List ℕ) (i : ℕ) → i < length value → ((rest : List ℕ) → option_map (λ more. bytes ++ more) (bytes_at pair (get_or value i 0 ∷ rest)) ≡ option_map (λ more. after ++ more) (bytes_at next rest))
    → option_map (λ more. bytes ++ more) (bytes_at pair (drop i value)) ≡ bytes_at Ready value → option_map (λ more. after ++ more) (bytes_at next (drop (i + 1) value)) ≡ bytes_at Ready value
goes_on pair next value bytes after i h step inv =
    sym (ap (option_map (λ more. bytes ++ more)) (at_drop_more (bytes_at pair) value i 0 h) ∙ step (drop (i + 1) value)) ∙ inv
