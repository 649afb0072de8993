-- The extension of a file's name.
use Rattle.std.proofs.Common.{◌≡◌, ℕ, ◌+◌, ◌<◌, Bool, true, false, cond, List, [], ◌∷◌, ◌++◌, length, take, drop, get_or, Option, Some, None, refl, sym, ap, ◌∙◌, subst, append_assoc, append-nil, length-append, inl, inr, arith}
use Rattle.std.specs.Prelude.{◌==◌, ◌&&◌, ◌||◌, not, if◌then◌else◌}
use Rattle.std.specs.Option.{option_map, unwrap_or}
use Rattle.std.specs.Str.{IsUtf8}
use Rattle.std.proofs.lemmas.Str.{IsUtf8-take, IsCharBoundary-before_ascii}
use Rattle.std.proofs.lemmas.List.{drop_more, drop_all, take_at, get_or_at}
use Rattle.std.proofs.lemmas.Grind.{take_at_read}
use Rattle.iasl_options.specs.declared.request.Options.{Options}
use Rattle.iasl_options.specs.Names.{has_slash, or_here, before_extension, stem_of, output_stem, output_name, has_dot, IsStem, IsOutputName}
use Rattle.iasl_options.specs.Found.{found_with}
use Rattle.iasl_options.specs.Shown.{IsText, AreTexts}

-- what is before the extension, where a dot was found among the first bytes, and `more` is that of the others
abbrev pub in_all : List ℕ → Option ℕ → ℕ → List ℕ → Option (List ℕ) → Option (List ℕ)
in_all file found at rest (Some front) = Some (take at file ++ front)
in_all file found at rest None = if has_slash rest then None else option_map (λ n. take n file) found

abbrev pub so_far : List ℕ → Option ℕ → ℕ → Option (List ℕ)
so_far file found at = in_all file found at (drop at file) (before_extension (drop at file))

same_none : (c : Bool) → ◌≡◌ {A = Option (List ℕ)} (if c then None else None) None
same_none true = refl
same_none false = refl

pub at_start : (file : List ℕ) → so_far file None 0 ≡ before_extension file
at_start file = by_front (before_extension file)
  where
    by_front : (o : Option (List ℕ)) → in_all file None 0 file o ≡ o
    by_front None = same_none (has_slash file)
    by_front (Some front) = refl

-- whether a slash stands in one more byte and the others, by what is known of both
slash_in : (c : ℕ) (cs : List ℕ) (s t : Bool) → c == 47 ≡ s → has_slash cs ≡ t → has_slash (c ∷ cs) ≡ (s || t)
slash_in c cs s t es et = ap (λ b. b || has_slash cs) es ∙ ap (λ b. s || b) et

step_with : (file : List ℕ) (found : Option ℕ) (at c : ℕ) (cs : List ℕ) (o : Option (List ℕ)) → take (at + 1) file ≡ take at file ++ c ∷ [] → in_all file (found_with found at c) (at + 1) cs o ≡ in_all file found at (c ∷ cs) (or_here c cs o)
step_with file found at c cs (Some front) e = ap Some (ap (λ xs. xs ++ front) e ∙ append_assoc (take at file) (c ∷ []) front)
step_with file found at c cs None e = by_dot (c == 46) refl (c == 47) refl (has_slash cs) refl
  where
    by_dot : (d : Bool) → c == 46 ≡ d → (s : Bool) → c == 47 ≡ s → (t : Bool) → has_slash cs ≡ t
        → (if t then None else option_map (λ n. take n file) (cond d (Some at) (cond s None found))) ≡ in_all file found at (c ∷ cs) (if d && not t then Some [] else None)
    by_dot true ed s es false et = ap Some (sym (append-nil (take at file)))
    by_dot true ed true es true et = sym (ap (λ b. if b then None else option_map (λ n. take n file) found) (slash_in c cs true true es et))
    by_dot true ed false es true et = sym (ap (λ b. if b then None else option_map (λ n. take n file) found) (slash_in c cs false true es et))
    by_dot false ed true es t et = same_none t ∙ sym (ap (λ b. if b then None else option_map (λ n. take n file) found) (slash_in c cs true t es et))
    by_dot false ed false es t et = sym (ap (λ b. if b then None else option_map (λ n. take n file) found) (slash_in c cs false t es et))

pub step : (file : List ℕ) (found : Option ℕ) (at d : ℕ) → at < length file → so_far file (found_with found at (get_or file at d)) (at + 1) ≡ so_far file found at
step file found at d lt =
    step_with file found at (get_or file at d) (drop (at + 1) file) (before_extension (drop (at + 1) file)) ((take_at_read file at d lt).1)
    ∙ sym (ap (λ rest. in_all file found at rest (before_extension rest)) (drop_more file at d lt))

pub at_end : (file : List ℕ) (found : Option ℕ) (at : ℕ) → length file ≡ at → so_far file found at ≡ option_map (λ n. take n file) found
at_end file found at e = ap (λ rest. in_all file found at rest (before_extension rest)) (drop_all at file (omega arith))

neither : (b c : Bool) → (b || c) ≡ false → (b ≡ false) × (c ≡ false)
neither true c h = absurd cc
neither false c h = (refl, h)

-- where a dot does not begin an extension, a slash stands behind it
dot_none : (d t : Bool) → d ≡ true → ◌≡◌ {A = Option (List ℕ)} (if d && not t then Some [] else None) None → t ≡ true
dot_none true true e h = refl
dot_none true false e h = absurd cc
dot_none false t e h = absurd cc

here_none : (c : ℕ) (cs : List ℕ) (o : Option (List ℕ)) → or_here c cs o ≡ None → (o ≡ None) × ((c == 46) ≡ true → has_slash cs ≡ true)
here_none c cs None h = (refl, λ e. dot_none (c == 46) (has_slash cs) e h)
here_none c cs (Some front) h = absurd cc

no_dot : (file : List ℕ) → before_extension file ≡ None → has_slash file ≡ false → has_dot file ≡ false
no_dot [] e h = refl
no_dot (c ∷ cs) e h =
    let both = neither (c == 47) (has_slash cs) h in
    let parts = here_none c cs (before_extension cs) e in
    by_dot (c == 46) refl (no_dot cs parts.0 both.1) parts.1 both.1
  where
    by_dot : (d : Bool) → (c == 46) ≡ d → has_dot cs ≡ false → ((c == 46) ≡ true → has_slash cs ≡ true) → has_slash cs ≡ false → (d || has_dot cs) ≡ false
    by_dot true is more go none = let slash : has_slash cs ≡ true = go is in absurd cc
    by_dot false is more go none = more

-- what stands before an extension, and the extension
Split : List ℕ → List ℕ → Type 0
Split file front = (rest : List ℕ) × (file ≡ front ++ 46 ∷ rest) × (has_dot rest ≡ false) × (has_slash rest ≡ false)

stem_front : (file front : List ℕ) → before_extension file ≡ Some front → Split file front
unfolding Split
stem_front [] front e = absurd cc
stem_front (c ∷ cs) front e = by_rest (before_extension cs) refl e (stem_front cs)
  where
    by_test : (d t : Bool) → (c == 46) ≡ d → has_slash cs ≡ t → (if d && not t then Some [] else None) ≡ Some front → before_extension cs ≡ None → Split (c ∷ cs) front
    by_test true false h slash k none =
        let front_is : [] ≡ front = cc in
        let dot : c ≡ 46 = grind (arith, h) in
        (cs, ap (λ d. d ∷ cs) dot ∙ ap (λ xs. xs ++ 46 ∷ cs) front_is, no_dot cs none slash, slash)
    by_test true true h slash k none = absurd cc
    by_test false t h slash k none = absurd cc

    by_rest : (o : Option (List ℕ)) → before_extension cs ≡ o → or_here c cs o ≡ Some front → ((f : List ℕ) → before_extension cs ≡ Some f → Split cs f) → Split (c ∷ cs) front
    by_rest None h k go = by_test (c == 46) (has_slash cs) refl refl k h
    by_rest (Some f) h k go =
        let own : c ∷ f ≡ front = cc in
        let more = go f h in
        (more.0, ap (λ xs. c ∷ xs) more.1 ∙ ap (λ xs. xs ++ 46 ∷ more.0) own, more.2, more.3)

-- a name with no extension has a slash behind each of its dots
slash_behind : (front rest : List ℕ) → before_extension (front ++ 46 ∷ rest) ≡ None → has_slash rest ≡ true
slash_behind [] rest e = (here_none 46 rest (before_extension rest) e).1 refl
slash_behind (c ∷ cs) rest e = slash_behind cs rest (here_none c (cs ++ 46 ∷ rest) (before_extension (cs ++ 46 ∷ rest)) e).0

pub stem_is : (file : List ℕ) → IsStem file (stem_of file)
unfolding Split
stem_is file = by_front (before_extension file) refl
  where
    by_front : (o : Option (List ℕ)) → before_extension file ≡ o → IsStem file (unwrap_or o file)
    by_front None e = inr (refl, λ front rest is. slash_behind front rest (ap before_extension (sym is) ∙ e))
    by_front (Some front) e = inl (stem_front file front e)

pub named : (prefix : Option (List ℕ)) (file extension name : List ℕ) → name ≡ output_name prefix file extension → IsOutputName prefix file extension name
named None file extension name e = (stem_of file, stem_is file, e)
named (Some prefix) file extension name e = e

front_utf8 : (file front rest : List ℕ) → file ≡ front ++ 46 ∷ rest → IsUtf8 file → IsUtf8 front
front_utf8 file front rest e u =
    let whole : IsUtf8 (front ++ 46 ∷ rest) = subst IsUtf8 e u in
    let below : length front < length (front ++ 46 ∷ rest) = omega (arith, length-append front (46 ∷ rest)) in
    let ascii : get_or (front ++ 46 ∷ rest) (length front) 0 < 128 = subst (λ n. n < 128) (sym (get_or_at front 46 rest 0 (length front) refl)) (omega arith) in
    subst IsUtf8 (take_at front (46 ∷ rest) (length front) refl) (IsUtf8-take (front ++ 46 ∷ rest) (length front) whole (IsCharBoundary-before_ascii (front ++ 46 ∷ rest) (length front) below ascii))

pub stem_text : (file : List ℕ) → IsUtf8 file → IsUtf8 (stem_of file)
unfolding Split
stem_text file u = by_front (before_extension file) refl
  where
    by_front : (o : Option (List ℕ)) → before_extension file ≡ o → IsUtf8 (unwrap_or o file)
    by_front None e = u
    by_front (Some front) e = let split = stem_front file front e in front_utf8 file front split.0 split.1 u

pub stem_utf8 : (options : Options) → AreTexts options → IsUtf8 (output_stem options.prefix options.file)
stem_utf8 options texts = by_prefix options.prefix texts.prefix
  where
    by_prefix : (o : Option (List ℕ)) → IsText o → IsUtf8 (output_stem o options.file)
    by_prefix None h = stem_text options.file texts.file
    by_prefix (Some prefix) h = h
