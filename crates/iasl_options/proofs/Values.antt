-- The value of an option, and what it asks for.
use Rattle.std.proofs.Common.{◌≡◌, ℕ, suc, ◌+◌, ◌≤◌, Bool, true, false, cond, List, [], ◌∷◌, ◌++◌, length, take, drop, Some, None, refl, sym, ap, ◌∙◌, subst, inl, inr, arith}
use Rattle.std.specs.Prelude.{◌==◌, ◌||◌, ◌⊎◌, not, nat_lt}
use Rattle.std.specs.Option.{unwrap_or}
use Rattle.std.specs.List.{prefix_len}
use Rattle.std.proofs.lemmas.List.{take_at, take_all, drop_all, append-nil}
use Rattle.iasl_options.specs.declared.words.Key.{Key}
use Rattle.iasl_options.specs.declared.words.Key.TheVariants as key
use Rattle.iasl_options.specs.Words.{Setting, Definition, equals_at, with_value}
use Rattle.iasl_options.specs.CommandLine.{has_equals, IsNameAndText, IsValue}

-- how many bytes stand before the first `=`
abbrev front : List ℕ → ℕ
front value = prefix_len (λ c. not (c == 61)) value

front_le : (value : List ℕ) → front value ≤ length value
front_le [] = omega arith
front_le (c ∷ cs) = by_test (c == 61) (front_le cs)
  where
    by_test : (b : Bool) → front cs ≤ length cs → cond (not b) (1 + front cs) 0 ≤ suc (length cs)
    by_test true h = omega arith
    by_test false h = omega arith

equals_front : (value : List ℕ) → equals_at value ≡ front value
equals_front value = by_test (nat_lt (front value) (length value)) refl
  where
    by_test : (b : Bool) → nat_lt (front value) (length value) ≡ b → unwrap_or (cond b (Some (front value)) None) (length value) ≡ front value
    by_test true e = refl
    by_test false e = let le = front_le value in grind (arith, e, le)

front_here : (c : ℕ) (cs : List ℕ) → (c == 61) ≡ true → front (c ∷ cs) ≡ 0
front_here c cs e = ap (λ b. cond (not b) (1 + front cs) 0) e

front_more : (c : ℕ) (cs : List ℕ) → (c == 61) ≡ false → front (c ∷ cs) ≡ suc (front cs)
front_more c cs e =
    let s : 1 + front cs ≡ suc (front cs) = omega arith in
    ap (λ b. cond (not b) (1 + front cs) 0) e ∙ s

-- the name and the text of a value that is cut at this place
abbrev CutAt : List ℕ → ℕ → Type 0
CutAt value n = IsNameAndText value (take n value) (drop (n + 1) value)

cut_here : (c : ℕ) (cs : List ℕ) → (c == 61) ≡ true → CutAt (c ∷ cs) 0
cut_here c cs e =
    let is : c ≡ 61 = grind (arith, e) in
    (refl, inr (ap (λ d. d ∷ cs) is))

either_more : (c n : ℕ) (cs : List ℕ) → ((cs ≡ take n cs) × (drop (n + 1) cs ≡ [])) ⊎ (cs ≡ take n cs ++ 61 ∷ drop (n + 1) cs)
    → ((c ∷ cs ≡ c ∷ take n cs) × (drop (n + 1) cs ≡ [])) ⊎ (c ∷ cs ≡ c ∷ take n cs ++ 61 ∷ drop (n + 1) cs)
either_more c n cs (inl h) = inl (ap (λ xs. c ∷ xs) h.0, h.1)
either_more c n cs (inr h) = inr (ap (λ xs. c ∷ xs) h)

cut_more : (c n : ℕ) (cs : List ℕ) → (c == 61) ≡ false → CutAt cs n → CutAt (c ∷ cs) (suc n)
cut_more c n cs e h =
    let lacks : has_equals (c ∷ take n cs) ≡ false = ap (λ b. b || has_equals (take n cs)) e ∙ h.0 in
    let s : suc (n + 1) ≡ suc n + 1 = omega arith in
    subst (λ k. IsNameAndText (c ∷ cs) (c ∷ take n cs) (drop k (c ∷ cs))) s (lacks, either_more c n cs h.1)

cut_front : (value : List ℕ) → CutAt value (front value)
cut_front [] = (refl, inl (refl, refl))
cut_front (c ∷ cs) = by_test (c == 61) refl (cut_front cs)
  where
    by_test : (b : Bool) → (c == 61) ≡ b → CutAt cs (front cs) → CutAt (c ∷ cs) (front (c ∷ cs))
    by_test true e h = subst (CutAt (c ∷ cs)) (sym (front_here c cs e)) (cut_here c cs e)
    by_test false e h = subst (CutAt (c ∷ cs)) (sym (front_more c cs e)) (cut_more c (front cs) cs e h)

cut_equals : (value : List ℕ) → CutAt value (equals_at value)
cut_equals value = subst (CutAt value) (sym (equals_front value)) (cut_front value)

-- what an option asks for is of its value
pub value_is : (key : Key) (value : List ℕ) → IsValue key value (with_value key value)
value_is key.Prefix value = refl
value_is key.Directory value = refl
value_is key.Message value = refl
value_is key.Definition value = (take (equals_at value) value, drop (equals_at value + 1) value, cut_equals value, refl)

neither : (b c : Bool) → (b || c) ≡ false → (b ≡ false) × (c ≡ false)
neither true c h = absurd cc
neither false c h = (refl, h)

-- no `=` stands in the name, and then the text begins, or nothing more stands there
front_name : (name rest : List ℕ) → has_equals name ≡ false → front rest ≡ 0 → front (name ++ rest) ≡ length name
front_name [] rest h z = z
front_name (c ∷ cs) rest h z =
    let both = neither (c == 61) (has_equals cs) h in
    front_more c (cs ++ rest) both.0 ∙ ap suc (front_name cs rest both.1 z)

drop_behind : (name : List ℕ) (c : ℕ) (text : List ℕ) → drop (length name + 1) (name ++ c ∷ text) ≡ text
drop_behind [] c text = refl
drop_behind (n ∷ ns) c text =
    let s : length (n ∷ ns) + 1 ≡ suc (length ns + 1) = omega arith in
    ap (λ k. drop k (n ∷ ns ++ c ∷ text)) s ∙ drop_behind ns c text

cut_only : (value name text : List ℕ) → IsNameAndText value name text → (take (equals_at value) value ≡ name) × (drop (equals_at value + 1) value ≡ text)
cut_only value name text h = by_form h.1
  where
    by_form : ((value ≡ name) × (text ≡ [])) ⊎ (value ≡ name ++ 61 ∷ text) → (take (equals_at value) value ≡ name) × (drop (equals_at value + 1) value ≡ text)
    by_form (inl same) =
        let at : equals_at value ≡ length value = equals_front value ∙ ap front (same.0 ∙ sym (append-nil name)) ∙ front_name name [] h.0 refl ∙ ap length (sym same.0) in
        (take_all (equals_at value) value (omega arith) ∙ same.0, drop_all (equals_at value + 1) value (omega arith) ∙ sym same.1)
    by_form (inr same) =
        let at : equals_at value ≡ length name = equals_front value ∙ ap front same ∙ front_name name (61 ∷ text) h.0 refl in (
          ap (λ n. take n value) at ∙ ap (take (length name)) same ∙ take_at name (61 ∷ text) (length name) refl,
          ap (λ n. drop (n + 1) value) at ∙ ap (drop (length name + 1)) same ∙ drop_behind name 61 text,
        )

-- an option asks for nothing else with this value
pub value_only : (key : Key) (value : List ℕ) (setting : Setting) → IsValue key value setting → setting ≡ with_value key value
value_only key.Prefix value setting h = h
value_only key.Directory value setting h = h
value_only key.Message value setting h = h
value_only key.Definition value setting h =
    let same = cut_only value h.0 h.1 h.2 in
    h.3 ∙ sym (ap (λ name. Definition name (drop (equals_at value + 1) value)) same.0 ∙ ap (λ text. Definition h.0 text) same.1)
