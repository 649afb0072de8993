-- What a block mentions is named over the whole block.
use Rattle.acpi_names.proofs.Mentions.{right_nil, after_append}
use Rattle.std.proofs.Common.{◌≡◌, ℕ, zero, suc, ◌<◌, Bool, true, false, List, [], ◌∷◌, length, get_or, Option, Some, refl, ap, ◌∙◌, subst, arith, take, drop, ◌++◌, ◌≤◌, ◌+◌, None, sym}
use Rattle.std.proofs.lemmas.List.{take_all, length-map, append_assoc}
use Rattle.std.specs.Prelude.{◌||◌, is_some, if◌then◌else◌}
use Rattle.acpi_values.specs.Paths.{AbsolutePath, is_same_path}
use Rattle.acpi_state.specs.Objects.{lookup}
use Rattle.asl_tree.specs.Names.{declared_path}
use Rattle.asl_meaning.specs.Declarations.{Declarations, in_root, is_named, with_external, nothing_declared, called}
use Rattle.acpi_names.specs.Errors.{Whole}
use Rattle.acpi_names.specs.Mentions.{Mention, Used', Sought, Called, Declares, Outside, Opens, after, after_all, call_in, calls_in}
use Rattle.acpi_names.specs.Shown.{shown, all_shown}
use Rattle.acpi_names.specs.declared.mention.Mention.{Mention as CodeMention}
use Rattle.acpi_names.proofs.Folds.{first_external}
use Rattle.acpi_names.proofs.Numbers.{same_path_refl}
use Rattle.name_kinds.specs.Tables.{IsThere, TablesSay, Notices}
use Rattle.name_kinds.specs.declared.tables.Tables.{Tables}

or_right : (a : Bool) → (a || true) ≡ true
or_right true = refl
or_right false = refl

some_more : {A : Type 0} (b : Bool) (x : A) (o : Option A) → is_some o ≡ true → is_some (if b then Some x else o) ≡ true
some_more true x o e = refl
some_more false x o e = e

or_more : (a b c d : Bool) → (a ≡ true → c ≡ true) → (b ≡ true → d ≡ true) → (a || b) ≡ true → (c || d) ≡ true
or_more true b c d f g e = ap (λ x. x || d) (f refl)
or_more false b c d f g e = ap (λ x. c || x) (g e) ∙ or_right c

-- a declaration names no path less
pub still_named : (m : Mention) (d : Declarations) (path : AbsolutePath) → is_named d path ≡ true → is_named (after m d) path ≡ true
still_named (Used' asked at name scope) d path e = e
still_named (Sought at name scope) d path e = e
still_named (Called asked at name args scope) d path e = e
still_named (Declares at name as' scope) d path e =
    or_more (is_some (lookup d.declared path)) _ _ _ (some_more (is_same_path (declared_path name scope) path) as' (lookup d.declared path)) (λ h. h) e
still_named (Outside here at name type scope) d path e = by_root (in_root (declared_path name scope))
  where
    by_root : (c : Bool) → is_named (with_external c (declared_path name scope) type d) path ≡ true
    by_root true = e
    by_root false =
        or_more (is_some (lookup d.declared path)) _ _ _ (λ h. h)
        (or_more (is_some (lookup d.external path)) _ _ _
        (λ h. first_external (declared_path name scope) path type d.external ∙ ap (λ b. is_same_path (declared_path name scope) path || b) h ∙ or_right (is_same_path (declared_path name scope) path)) (λ h. h)) e
still_named (Opens here at name scope inner) d path e = e

all_named : (ms : List Mention) (d : Declarations) (path : AbsolutePath) → is_named d path ≡ true → is_named (after_all ms d) path ≡ true
all_named [] d path e = e
all_named (m ∷ ms) d path e = all_named ms (after m d) path (still_named m d path e)

-- what a mention declares is named behind it
named_behind : (m : Mention) (d all : Declarations) (known : _) (calls : _) → ((path : AbsolutePath) → is_named (after m d) path ≡ true → is_named all path ≡ true) → IsThere (record { all = all; known = known; calls = calls }) m
named_behind (Used' asked at name scope) d all known calls f = tt
named_behind (Sought at name scope) d all known calls f = tt
named_behind (Called asked at name args scope) d all known calls f = tt
named_behind (Declares at name as' scope) d all known calls f =
    f (declared_path name scope) (ap (λ b. is_some (if b then Some as' else lookup d.declared (declared_path name scope)) || (is_some (lookup d.external (declared_path name scope)) || in_root (declared_path name scope))) (same_path_refl (declared_path name scope)))
named_behind (Outside here at name type scope) d all known calls f = f (declared_path name scope) (by_root (in_root (declared_path name scope)) refl)
  where
    by_root : (c : Bool) → in_root (declared_path name scope) ≡ c → is_named (with_external c (declared_path name scope) type d) (declared_path name scope) ≡ true
    by_root true e =
        ap (λ b. is_some (lookup d.declared (declared_path name scope)) || (is_some (lookup d.external (declared_path name scope)) || b)) e
        ∙ ap (λ b. is_some (lookup d.declared (declared_path name scope)) || b) (or_right (is_some (lookup d.external (declared_path name scope)))) ∙ or_right (is_some (lookup d.declared (declared_path name scope)))
    by_root false e =
        ap (λ b. is_some (lookup d.declared (declared_path name scope)) || (b || in_root (declared_path name scope)))
        (first_external (declared_path name scope) (declared_path name scope) type d.external ∙ ap (λ b. b || is_some (lookup d.external (declared_path name scope))) (same_path_refl (declared_path name scope)))
        ∙ or_right (is_some (lookup d.declared (declared_path name scope)))
named_behind (Opens here at name scope inner) d all known calls f = tt

-- one mention further
pub next_taken : (paths : List AbsolutePath) (mentions : List CodeMention) (i : ℕ) (m : CodeMention) → i < length mentions → m ≡ get_or mentions i m → take (i + 1) (all_shown paths mentions) ≡ take i (all_shown paths mentions) ++ shown paths m ∷ []
next_taken paths mentions i m lt e = ap (λ k. take k (all_shown paths mentions)) (let s : i + 1 ≡ suc i = omega arith in s) ∙ by_suc mentions i lt e
  where
    by_suc : (ms : List CodeMention) (i : ℕ) → i < length ms → m ≡ get_or ms i m → take (suc i) (all_shown paths ms) ≡ take i (all_shown paths ms) ++ shown paths m ∷ []
    by_suc [] i lt e = absurd (omega (arith, lt))
    by_suc (x ∷ ms) zero lt e = ap (λ x. shown paths x ∷ []) (sym e)
    by_suc (x ∷ ms) (suc i) lt e = ap (λ xs. shown paths x ∷ xs) (by_suc ms i (omega (arith, lt)) e)

-- the same, where the rest is still to come
pub next_dropped : (paths : List AbsolutePath) (mentions : List CodeMention) (i : ℕ) (m : CodeMention) → i < length mentions → m ≡ get_or mentions i m → drop i (all_shown paths mentions) ≡ shown paths m ∷ drop (i + 1) (all_shown paths mentions)
next_dropped paths mentions i m lt e = by_suc mentions i lt e ∙ ap (λ k. shown paths m ∷ drop k (all_shown paths mentions)) (let s : suc i ≡ i + 1 = omega arith in s)
  where
    by_suc : (ms : List CodeMention) (i : ℕ) → i < length ms → m ≡ get_or ms i m → drop i (all_shown paths ms) ≡ shown paths m ∷ drop (suc i) (all_shown paths ms)
    by_suc [] i lt e = absurd (omega (arith, lt))
    by_suc (x ∷ ms) zero lt e = ap (λ x. shown paths x ∷ all_shown paths ms) (sym e)
    by_suc (x ∷ ms) (suc i) lt e = by_suc ms i (omega (arith, lt)) e

pub shown_there : (whole : Whole) (paths : List AbsolutePath) (mentions : List CodeMention) (i : ℕ) (m : CodeMention) → after_all (all_shown paths mentions) nothing_declared ≡ whole.all → i < length mentions → m ≡ get_or mentions i m → IsThere whole (shown paths m)
shown_there whole paths mentions i m all lt e = from mentions nothing_declared i all lt e
  where
    from : (ms : List CodeMention) (d : Declarations) (i : ℕ) → after_all (all_shown paths ms) d ≡ whole.all → i < length ms → m ≡ get_or ms i m → IsThere whole (shown paths m)
    from [] d i all lt e = absurd (omega (arith, lt))
    from (x ∷ ms) d zero all lt e =
        subst (λ y. IsThere whole (shown paths y)) (sym e)
        (named_behind (shown paths x) d whole.all whole.known whole.calls (λ path named. subst (λ a. is_named a path ≡ true) all (all_named (all_shown paths ms) (after (shown paths x) d) path named)))
    from (x ∷ ms) d (suc i) all lt e = from ms (after (shown paths x) d) i all (omega (arith, lt)) e

called_append : (xs ys : List (Option AbsolutePath × ℕ)) → called (xs ++ ys) ≡ called xs ++ called ys
called_append [] ys = refl
called_append ((None, n) ∷ xs) ys = called_append xs ys
called_append ((Some p, n) ∷ xs) ys = ap (λ zs. (p, n) ∷ zs) (called_append xs ys)

calls_append : (has : AbsolutePath → Bool) (xs ys : List Mention) → calls_in has (xs ++ ys) ≡ calls_in has xs ++ calls_in has ys
calls_append has [] ys = refl
calls_append has (x ∷ xs) ys = ap (λ zs. call_in has x ++ zs) (calls_append has xs ys) ∙ sym (append_assoc (call_in has x) (calls_in has xs) (calls_in has ys))

pub calls_next : (has : AbsolutePath → Bool) (ms : List Mention) (m : Mention) → called (calls_in has (ms ++ m ∷ [])) ≡ called (calls_in has ms) ++ called (call_in has m)
calls_next has ms m =
    ap called (calls_append has ms (m ∷ []) ∙ ap (λ zs. calls_in has ms ++ zs) (right_nil (call_in has m))) ∙ called_append (calls_in has ms) (call_in has m)

pub notes_next : (paths : List AbsolutePath) (whole : Whole) (old new : Tables) (mentions : List CodeMention) (i : ℕ) (m : CodeMention) → i < length mentions → m ≡ get_or mentions i m → Notices paths whole old new (shown paths m)
    → TablesSay paths (is_named whole.all) old (called (calls_in (is_named whole.all) (take i (all_shown paths mentions)))) (after_all (take i (all_shown paths mentions)) nothing_declared) → TablesSay paths (is_named whole.all) new (called (calls_in (is_named whole.all) (take (i + 1) (all_shown paths mentions)))) (after_all (take (i + 1) (all_shown paths mentions)) nothing_declared)
notes_next paths whole old new mentions i m lt e notices notes =
    let has = is_named whole.all in
    let before = take i (all_shown paths mentions) in
    subst (λ ms. TablesSay paths has new (called (calls_in has ms)) (after_all ms nothing_declared)) (sym (next_taken paths mentions i m lt e))
    (subst (λ cs. TablesSay paths has new cs (after_all (before ++ shown paths m ∷ []) nothing_declared)) (sym (calls_next has before (shown paths m)))
    (subst (λ d. TablesSay paths has new (called (calls_in has before) ++ called (call_in has (shown paths m))) d) (sym (after_append before (shown paths m ∷ []) nothing_declared))
    (notices _ _ notes)))

pub notes_all : (paths : List AbsolutePath) (whole : Whole) (tables : Tables) (mentions : List CodeMention) (i : ℕ) → length mentions ≤ i → after_all (all_shown paths mentions) nothing_declared ≡ whole.all → TablesSay paths (is_named whole.all) tables (called (calls_in (is_named whole.all) (take i (all_shown paths mentions)))) (after_all (take i (all_shown paths mentions)) nothing_declared)
    → TablesSay paths (is_named whole.all) tables (called (calls_in (is_named whole.all) (all_shown paths mentions))) whole.all
notes_all paths whole tables mentions i le all notes =
    let has = is_named whole.all in
    let ms = all_shown paths mentions in
    let full : take i ms ≡ ms = take_all i ms (omega (arith, le, length-map mentions (shown paths))) in
    subst (λ d. TablesSay paths has tables (called (calls_in has ms)) d) all (subst (λ xs. TablesSay paths has tables (called (calls_in has xs)) (after_all xs nothing_declared)) full notes)
