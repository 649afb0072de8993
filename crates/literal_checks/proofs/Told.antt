-- What is told of parts, one after another.
use Rattle.std.proofs.Common.{◌≡◌, ℕ, zero, suc, ◌+◌, ◌*◌, ◌<◌, ◌≤◌, Bool, true, false, List, [], ◌∷◌, ◌++◌, length, drop, get_or, add-one, Option, Some, None, refl, sym, ap, ◌∙◌, arith, append_assoc, append-nil}
use Rattle.std.proofs.lemmas.List.{drop_all}
use Rattle.iasl_messages.specs.declared.place.Place.{Place}
use Rattle.iasl_messages.specs.declared.message.Message.{Message}
use Rattle.acpi_values.specs.declared.width.Width.TheVariants.{W32, W64}
use Rattle.asl_syntax.specs.declared.raw.Infix.{Infix}
use Rattle.asl_syntax.specs.declared.raw.Raw.{Raw}
use Rattle.asl_syntax.specs.declared.raw.Raw.TheVariants as raw
use Rattle.asl_syntax.specs.Written.{written, writtens, written_in}
use Rattle.asl_syntax.specs.Views.{written_number, written_text, written_item, written_apply, written_list, written_comma, written_semicolon, written_empty}
use Rattle.asl_words.specs.declared.operator.Parameter.{Parameter}
use Rattle.word_meanings.specs.declared.meaning.Meaning.{Meaning}
use Rattle.word_meanings.specs.Meanings.{meaning_of}
use Rattle.asl_terms.specs.AtRaw.{inside_at, is_some}
use Rattle.asl_syntax.specs.Sizes.{size_at, size_in_at}
use Rattle.asl_terms.proofs.Bracketed.{given_some, from_item}
use Rattle.asl_syntax.specs.Falls.{size_item}
use Rattle.literal_checks.specs.Literals.{told_number, told_braces, told_braces_at, is_wide, is_first_wide, behind_first, parameters_in, holds_wide, unless, told, told_all, told_group, told_at, told_in_at, told_item_at, cut_literals_at}

pub nothing_more : (ms : List Message) → ms ++ [] ≡ ms
nothing_more ms = append-nil ms

-- ---- parameters

pub wide_there : (qs : List Parameter) (i : ℕ) (d : Parameter) → i < length qs → d ≡ get_or qs i d → is_wide d.slot ≡ is_first_wide (drop i qs)
wide_there [] i d lt e = absurd (omega (arith, lt))
wide_there (q ∷ qs) zero d lt e = ap (λ (p : Parameter). is_wide p.slot) e
wide_there (q ∷ qs) (suc i) d lt e = wide_there qs i d (omega (arith, lt)) e

pub wide_over : (qs : List Parameter) (i : ℕ) → length qs ≤ i → is_first_wide (drop i qs) ≡ false
wide_over qs i le = ap is_first_wide (drop_all i qs le)

pub ruleset wide_rules = (wide_there, wide_over)

behind : (qs : List Parameter) (i : ℕ) → behind_first (drop i qs) ≡ drop (suc i) qs
behind [] zero = refl
behind [] (suc i) = refl
behind (q ∷ qs) zero = refl
behind (q ∷ qs) (suc i) = behind qs i

behind_drop : (qs : List Parameter) (i : ℕ) → behind_first (drop i qs) ≡ drop (i + 1) qs
behind_drop qs i = behind qs i ∙ ap (λ k. drop k qs) (sym (add-one i))

-- ---- parts

pub of_number : (place : Place) (n : ℕ) → told_at (raw.Number place n) ≡ told_number place n
unfolding told_at
of_number place n = ap told (written_number place n)

pub of_text : (place : Place) (bytes : List ℕ) → told_at (raw.Text place bytes) ≡ []
unfolding told_at
of_text place bytes = ap told (written_text place bytes)

pub of_item : (place : Place) (w : List ℕ) (args body : Option (List Raw)) → told_at (raw.Item place w args body) ≡ told_item_at (meaning_of w (is_some body)) args body
unfolding told_at told_item_at
of_item place w args body =
    ap told (written_item place w args body)
    ∙ ap (λ b. told_group (parameters_in (meaning_of w b)) (written_in args) ++ unless (holds_wide (meaning_of w b)) (told_group [] (written_in body))) (given_some body)

pub of_apply : (place : Place) (op : Infix) (args : List Raw) → told_at (raw.Apply place op args) ≡ told_in_at [] args
unfolding told_at told_in_at
of_apply place op args = ap told (written_apply place op args)

pub of_list : (place : Place) (items : List Raw) → told_at (raw.List place items) ≡ []
unfolding told_at
of_list place items = ap told (written_list place items)

pub of_comma : told_at raw.Comma ≡ []
unfolding told_at
of_comma = ap told written_comma

pub of_semicolon : told_at raw.Semicolon ≡ []
unfolding told_at
of_semicolon = ap told written_semicolon

pub of_empty : told_at raw.Empty ≡ []
unfolding told_at
of_empty = ap told written_empty

pub ruleset part_rules = (of_number, of_text, of_item, of_apply, of_list, of_comma, of_semicolon, of_empty, nothing_more)

pub item_smaller : (r : Raw) (place : Place) (w : List ℕ) (args body : Option (List Raw)) → r ≡ raw.Item place w args body → 4 * (size_in_at args + size_in_at body) + 4 < 4 * size_at r + 1
item_smaller r place w args body e = let h : size_at r ≡ suc (size_in_at args + size_in_at body) = ap size_at e ∙ size_item place w args body in omega (arith, h)

-- ---- items

group_is : (qs : List Parameter) (raws : Option (List Raw)) → told_group qs (written_in raws) ≡ told_in_at qs (inside_at raws)
unfolding told_in_at writtens
group_is qs None = refl
group_is qs (Some raws) = refl

pub item_of_bytes : (meaning : Meaning) (args body : Option (List Raw)) → holds_wide meaning ≡ true → told_item_at meaning args body ≡ told_in_at (parameters_in meaning) (inside_at args)
unfolding told_item_at
item_of_bytes meaning args body e =
    ap (λ b. told_group (parameters_in meaning) (written_in args) ++ unless b (told_group [] (written_in body))) e
    ∙ append-nil (told_group (parameters_in meaning) (written_in args)) ∙ group_is (parameters_in meaning) args

pub item_of_others : (meaning : Meaning) (args body : Option (List Raw)) → holds_wide meaning ≡ false → told_item_at meaning args body ≡ told_in_at (parameters_in meaning) (inside_at args) ++ told_in_at [] (inside_at body)
unfolding told_item_at
item_of_others meaning args body e =
    ap (λ b. told_group (parameters_in meaning) (written_in args) ++ unless b (told_group [] (written_in body))) e
    ∙ ap (λ ms. ms ++ told_group [] (written_in body)) (group_is (parameters_in meaning) args)
    ∙ ap (λ ms. told_in_at (parameters_in meaning) (inside_at args) ++ ms) (group_is [] body)

pub ruleset item_rules = (item_of_bytes, item_of_others, append_assoc)

-- ---- lists

list_step : (qs : List Parameter) (raws : List Raw) (i : ℕ) (d : Raw) → i < length raws → told_in_at (drop i qs) (drop i raws) ≡ unless (is_first_wide (drop i qs)) (told_at (get_or raws i d)) ++ told_in_at (drop (i + 1) qs) (drop (i + 1) raws)
unfolding told_in_at told_at writtens
list_step qs raws i d lt =
    ap (λ rs. told_all (drop i qs) (writtens rs)) (from_item raws i d lt)
    ∙ ap (λ ps. unless (is_first_wide (drop i qs)) (told (written (get_or raws i d))) ++ told_all ps (writtens (drop (i + 1) raws))) (behind_drop qs i)

pub list_next : (qs : List Parameter) (raws : List Raw) (i : ℕ) (d : Raw) (old new whole : List Message) → i < length raws → old ++ told_in_at (drop i qs) (drop i raws) ≡ whole
    → new ≡ old ++ unless (is_first_wide (drop i qs)) (told_at (get_or raws i d)) → new ++ told_in_at (drop (i + 1) qs) (drop (i + 1) raws) ≡ whole
list_next qs raws i d old new whole lt e is =
    let rest = told_in_at (drop (i + 1) qs) (drop (i + 1) raws) in
    ap (λ ms. ms ++ rest) is ∙ append_assoc old (unless (is_first_wide (drop i qs)) (told_at (get_or raws i d))) rest ∙ ap (λ ms. old ++ ms) (sym (list_step qs raws i d lt)) ∙ e

pub list_over : (qs : List Parameter) (raws : List Raw) (i : ℕ) (all whole : List Message) → length raws ≤ i → all ++ told_in_at (drop i qs) (drop i raws) ≡ whole → all ≡ whole
unfolding told_in_at writtens
list_over qs raws i all whole le e = sym (ap (λ rs. all ++ told_all (drop i qs) (writtens rs)) (drop_all i raws le) ∙ append-nil all) ∙ e

pub ruleset list_rules = (list_next, list_over)

-- ---- sources

pub braces_item : (place : Place) (w : List ℕ) (args body : Option (List Raw)) → told_braces_at (raw.Item place w args body) ≡ told_in_at [] (inside_at body)
unfolding told_braces_at
braces_item place w args body = ap told_braces (written_item place w args body) ∙ group_is [] body

pub braces_number : (place : Place) (n : ℕ) → told_braces_at (raw.Number place n) ≡ []
unfolding told_braces_at
braces_number place n = ap told_braces (written_number place n)

pub braces_text : (place : Place) (bytes : List ℕ) → told_braces_at (raw.Text place bytes) ≡ []
unfolding told_braces_at
braces_text place bytes = ap told_braces (written_text place bytes)

pub braces_apply : (place : Place) (op : Infix) (args : List Raw) → told_braces_at (raw.Apply place op args) ≡ []
unfolding told_braces_at
braces_apply place op args = ap told_braces (written_apply place op args)

pub braces_list : (place : Place) (items : List Raw) → told_braces_at (raw.List place items) ≡ []
unfolding told_braces_at
braces_list place items = ap told_braces (written_list place items)

pub braces_comma : told_braces_at raw.Comma ≡ []
unfolding told_braces_at
braces_comma = ap told_braces written_comma

pub braces_semicolon : told_braces_at raw.Semicolon ≡ []
unfolding told_braces_at
braces_semicolon = ap told_braces written_semicolon

pub braces_empty : told_braces_at raw.Empty ≡ []
unfolding told_braces_at
braces_empty = ap told_braces written_empty

pub ruleset braces_rules = (braces_item, braces_number, braces_text, braces_apply, braces_list, braces_comma, braces_semicolon, braces_empty, nothing_more)

pub of_first : (first : Raw) (rest : List Raw) → cut_literals_at W32 (first ∷ rest) ≡ told_braces_at first
unfolding cut_literals_at told_braces_at writtens
of_first first rest = refl

pub of_wide_table : (raws : List Raw) → cut_literals_at W64 raws ≡ []
unfolding cut_literals_at
of_wide_table raws = refl

pub ruleset block_rules = (of_first, of_wide_table, nothing_more)
