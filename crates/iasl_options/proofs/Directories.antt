-- The directory of a file's name.
use Rattle.std.proofs.Common.{◌≡◌, ℕ, ◌+◌, ◌<◌, Bool, true, false, List, [], ◌∷◌, ◌++◌, length, take, drop, get_or, codes, length-append, refl, sym, ap, ◌∙◌, subst, append_assoc, inl, inr, arith, Option, Some, None}
use Rattle.std.specs.Prelude.{◌==◌, ◌||◌, if◌then◌else◌}
use Rattle.std.specs.Str.{IsUtf8}
use Rattle.std.proofs.lemmas.Str.{IsUtf8-take, IsUtf8-from_ascii, IsCharBoundary-after_ascii}
use Rattle.std.proofs.lemmas.Str.Ascii.{IsAscii-nil}
use Rattle.std.proofs.lemmas.List.{drop_more, drop_all, take_at, get_or_at}
use Rattle.std.proofs.lemmas.Grind.{take_at_read}
use Rattle.iasl_options.specs.Names.{has_slash, stem_of, directory_of, IsDirectory, table_name, IsTableName, further_name, IsFurtherName}
use Rattle.iasl_options.specs.Found.{length_with}
use Rattle.iasl_options.proofs.Extensions.{named, stem_is}

-- the directory, where one of `found` bytes was found among the first ones, and these are the others
abbrev pub with_rest : List ℕ → ℕ → ℕ → List ℕ → List ℕ
with_rest file found at rest = if has_slash rest then take at file ++ directory_of rest else take found file

abbrev pub so_far : List ℕ → ℕ → ℕ → List ℕ
so_far file found at = with_rest file found at (drop at file)

none : (file : List ℕ) → has_slash file ≡ false → directory_of file ≡ []
none [] e = refl
none (c ∷ cs) e = ap (λ b. if b then c ∷ directory_of cs else []) e

pub at_start : (file : List ℕ) → so_far file 0 0 ≡ directory_of file
at_start file = by_slash (has_slash file) refl
  where
    by_slash : (s : Bool) → has_slash file ≡ s → (if s then directory_of file else []) ≡ directory_of file
    by_slash true e = refl
    by_slash false e = sym (none file e)

step_with : (file : List ℕ) (found at c : ℕ) (cs : List ℕ) → take (at + 1) file ≡ take at file ++ c ∷ [] → with_rest file (length_with found at c) (at + 1) cs ≡ with_rest file found at (c ∷ cs)
step_with file found at c cs e = by_test (c == 47) refl (has_slash cs) refl
  where
    by_test : (s : Bool) → (c == 47) ≡ s → (t : Bool) → has_slash cs ≡ t
        → (if t then take (at + 1) file ++ directory_of cs else take (if s then at + 1 else found) file) ≡ (if s || t then take at file ++ (if s || t then c ∷ directory_of cs else []) else take found file)
    by_test true es true et = ap (λ xs. xs ++ directory_of cs) e ∙ append_assoc (take at file) (c ∷ []) (directory_of cs)
    by_test true es false et = e ∙ ap (λ xs. take at file ++ c ∷ xs) (sym (none cs et))
    by_test false es true et = ap (λ xs. xs ++ directory_of cs) e ∙ append_assoc (take at file) (c ∷ []) (directory_of cs)
    by_test false es false et = refl

pub step : (file : List ℕ) (found at d : ℕ) → at < length file → so_far file (length_with found at (get_or file at d)) (at + 1) ≡ so_far file found at
step file found at d lt =
    step_with file found at (get_or file at d) (drop (at + 1) file) ((take_at_read file at d lt).1)
    ∙ sym (ap (with_rest file found at) (drop_more file at d lt))

pub at_end : (file : List ℕ) (found at : ℕ) → length file ≡ at → so_far file found at ≡ take found file
at_end file found at e = ap (with_rest file found at) (drop_all at file (omega arith))

abbrev Split : List ℕ → List ℕ → Type 0
Split file directory = (front rest : List ℕ) × (file ≡ front ++ 47 ∷ rest) × (has_slash rest ≡ false) × (directory ≡ front ++ 47 ∷ [])

split : (file : List ℕ) → has_slash file ≡ true → Split file (directory_of file)
split [] e = absurd cc
split (c ∷ cs) e = by_rest (has_slash cs) refl (split cs)
  where
    whole : directory_of (c ∷ cs) ≡ c ∷ directory_of cs
    whole = ap (λ b. if b then c ∷ directory_of cs else []) e

    by_rest : (t : Bool) → has_slash cs ≡ t → (has_slash cs ≡ true → Split cs (directory_of cs)) → Split (c ∷ cs) (directory_of (c ∷ cs))
    by_rest true et go = let more = go et in (c ∷ more.0, more.1, ap (λ xs. c ∷ xs) more.2, more.3, whole ∙ ap (λ xs. c ∷ xs) more.4)
    by_rest false et go =
        let slash : c ≡ 47 = grind (arith, e, et) in
        ([], cs, ap (λ d. d ∷ cs) slash, et, whole ∙ ap (λ xs. c ∷ xs) (none cs et) ∙ ap (λ d. d ∷ []) slash)

pub is_directory : (file : List ℕ) → IsDirectory file (directory_of file)
is_directory file = by_slash (has_slash file) refl
  where
    by_slash : (s : Bool) → has_slash file ≡ s → IsDirectory file (directory_of file)
    by_slash true e = inl (split file e)
    by_slash false e = inr (e, none file e)

pub is_named : (prefix : Option (List ℕ)) (file own name : List ℕ) → name ≡ table_name prefix file own → IsTableName prefix file own name
is_named (Some prefix) file own name e = named (Some prefix) file (codes ".aml") name e
is_named None file [] name e = named None file (codes ".aml") name e
is_named None file (c ∷ own) name e = (directory_of file, is_directory file, e)

pub is_further : (prefix : Option (List ℕ)) (file own extension name : List ℕ) → name ≡ further_name prefix file own extension → IsFurtherName prefix file own extension name
is_further (Some prefix) file own extension name e = named (Some prefix) file extension name e
is_further None file [] extension name e = named None file extension name e
is_further None file (c ∷ own) extension name e = (directory_of file, stem_of (c ∷ own), is_directory file, stem_is (c ∷ own), e)

front_text : (file front rest : List ℕ) → file ≡ front ++ 47 ∷ rest → IsUtf8 file → IsUtf8 (front ++ 47 ∷ [])
front_text file front rest e u =
    let split : file ≡ (front ++ 47 ∷ []) ++ rest = e ∙ sym (append_assoc front (47 ∷ []) rest) in
    let whole : IsUtf8 ((front ++ 47 ∷ []) ++ rest) = subst IsUtf8 split u in
    let below : length front < length ((front ++ 47 ∷ []) ++ rest) = omega (arith, length-append (front ++ 47 ∷ []) rest, length-append front (47 ∷ [])) in
    let ascii : get_or ((front ++ 47 ∷ []) ++ rest) (length front) 0 < 128 =
    subst (λ xs. get_or xs (length front) 0 < 128) (sym (append_assoc front (47 ∷ []) rest)) (subst (λ n. n < 128) (sym (get_or_at front 47 rest 0 (length front) refl)) (omega arith)) in
    subst IsUtf8 (take_at (front ++ 47 ∷ []) rest (length front + 1) (length-append front (47 ∷ [])))
    (IsUtf8-take ((front ++ 47 ∷ []) ++ rest) (length front + 1) whole (IsCharBoundary-after_ascii ((front ++ 47 ∷ []) ++ rest) (length front) whole below ascii))

pub directory_text : (file : List ℕ) → IsUtf8 file → IsUtf8 (directory_of file)
directory_text file u = by_case (is_directory file)
  where
    by_case : IsDirectory file (directory_of file) → IsUtf8 (directory_of file)
    by_case (inl d) = subst IsUtf8 (sym d.4) (front_text file d.0 d.1 d.2 u)
    by_case (inr d) = subst IsUtf8 (sym d.1) (IsUtf8-from_ascii [] IsAscii-nil)
