-- A key that begins with the letters of a label.
use Rattle.std.proofs.Common.{◌≡◌, ◌&&◌, ◌==◌, ℕ, true, false, cond, List, [], ◌∷◌, ◌++◌, Some, None, refl, sym, ap, ◌∙◌, append-nil}
use Rattle.std.specs.Str.{bytes_eq}
use Rattle.data_tables.specs.Labels.{behind_key}

pub same_behind : (text key rest more : List ℕ) → behind_key text key ≡ Some rest → bytes_eq text (key ++ more) ≡ bytes_eq rest more
same_behind text [] rest more e = let same : text ≡ rest = cc in ap (λ (t : List ℕ). bytes_eq t more) same
same_behind [] (c ∷ key) rest more e = absurd cc
same_behind (d ∷ text) (c ∷ key) rest more e =
    elim (d == c) as (λ b. cond b (behind_key text key) None ≡ Some rest → (b && bytes_eq text (key ++ more)) ≡ bytes_eq rest more) [
      | true ↦ λ k. same_behind text key rest more k
      | false ↦ λ k. absurd cc
    ] e

pub not_behind : (text key more : List ℕ) → behind_key text key ≡ None → bytes_eq text (key ++ more) ≡ false
not_behind text [] more e = absurd cc
not_behind [] (c ∷ key) more e = refl
not_behind (d ∷ text) (c ∷ key) more e =
    elim (d == c) as (λ b. cond b (behind_key text key) None ≡ None → (b && bytes_eq text (key ++ more)) ≡ false) [
      | true ↦ λ k. not_behind text key more k
      | false ↦ λ k. refl
    ] e

pub whole_behind : (text key rest : List ℕ) → behind_key text key ≡ Some rest → bytes_eq text key ≡ bytes_eq rest []
whole_behind text key rest e = ap (bytes_eq text) (sym (append-nil key)) ∙ same_behind text key rest [] e

pub whole_not : (text key : List ℕ) → behind_key text key ≡ None → bytes_eq text key ≡ false
whole_not text key e = ap (bytes_eq text) (sym (append-nil key)) ∙ not_behind text key [] e
