-- What settings ask for one after another is what they ask for together.
use Rattle.std.proofs.Common.{◌≡◌, ℕ, ◌≤◌, Bool, true, false, List, [], ◌∷◌, ◌++◌, length, Option, Some, None, refl, sym, ap, ◌∙◌, subst, append_assoc, append-nil, arith}
use Rattle.std.specs.Prelude.{◌&&◌, ◌||◌, not, is_some, flat_map, option_and_then}
use Rattle.std.specs.List.{list_any}
use Rattle.asl_preprocess.specs.declared.define.Define.{Define}
use Rattle.iasl_options.specs.Words.{Setting, PreprocessOnly, NoPreprocessor, Turned, Prefix, Directory, Definition, Ignored, File}
use Rattle.iasl_options.specs.declared.switches.Switch.{Switch}
use Rattle.iasl_options.specs.declared.switches.Switches.{Switches}
use Rattle.iasl_options.specs.Switches.{is_brief, is_strict, is_c_text, is_listing, is_generic, keeps_constants, keeps_integers, keeps_names, wraps_externals, is_acpica, hides_remarks, hides_warnings, hides_errors, with_switch, no_switch}
use Rattle.iasl_options.specs.Asking.{Asked, nothing, define_of, with_setting}
use Rattle.iasl_options.specs.CommandLine.{file_of, prefix_of, directory_of, definition_of, ignored_of, is_preprocess_only, is_no_preprocessor, turns, switches_in, IsGood, first, said}

-- settings one after another; none where one of them may not come any more
abbrev pub after : Asked → List Setting → Option Asked
after asked [] = Some asked
after asked (setting ∷ settings) = option_and_then (λ next. after next settings) (with_setting asked setting)

abbrev pub made : Option (List ℕ) → Option (List ℕ) → List (List ℕ) → List Define → Bool → Bool → Switches → List (List ℕ) → Asked
made file prefix directories definitions only enabled switches ignored = record { file = file; prefix = prefix; directories = directories; definitions = definitions; only = only; enabled = enabled; switches = switches; ignored = ignored }

abbrev first_or : Option (List ℕ) → List (List ℕ) → Option (List ℕ)
first_or None texts = first texts
first_or (Some text) texts = Some text

-- with all switches among further settings
abbrev switches_with : Switches → List Setting → Switches
switches_with switches settings = record {
  brief = switches.brief || list_any (turns is_brief) settings;
  strict = switches.strict || list_any (turns is_strict) settings;
  c_text = switches.c_text || list_any (turns is_c_text) settings;
  listing = switches.listing || list_any (turns is_listing) settings;
  generic = switches.generic || list_any (turns is_generic) settings;
  fold = switches.fold && not (list_any (turns keeps_constants) settings);
  short = switches.short && not (list_any (turns keeps_integers) settings);
  shorten = switches.shorten && not (list_any (turns keeps_names) settings);
  wrap = switches.wrap || list_any (turns wraps_externals) settings;
  acpica = switches.acpica || list_any (turns is_acpica) settings;
  remarks = switches.remarks && not (list_any (turns hides_remarks) settings);
  warnings = switches.warnings && not (list_any (turns hides_warnings) settings);
  errors = switches.errors && not (list_any (turns hides_errors) settings);
}

-- with all that further settings ask for
abbrev extended : Option (List ℕ) → Option (List ℕ) → List (List ℕ) → List Define → Bool → Bool → Switches → List (List ℕ) → List Setting → Asked
extended file prefix directories definitions only enabled switches ignored settings =
    made (first_or file (flat_map file_of settings)) (first_or prefix (flat_map prefix_of settings)) (directories ++ flat_map directory_of settings) (definitions ++ flat_map definition_of settings)
    (only || list_any is_preprocess_only settings) (enabled && not (list_any is_no_preprocessor settings)) (switches_with switches settings) (ignored ++ flat_map ignored_of settings)

-- ---- what may come

abbrev FilesFit : Option (List ℕ) → List (List ℕ) → Type 0
FilesFit file [] = Unit {0}
FilesFit (Some text) (file ∷ files) = ⊥
FilesFit None ([] ∷ files) = ⊥
FilesFit None ((c ∷ cs) ∷ []) = Unit {0}
FilesFit None ((c ∷ cs) ∷ file ∷ files) = ⊥

abbrev PrefixesFit : Option (List ℕ) → List (List ℕ) → Type 0
PrefixesFit prefix [] = Unit {0}
PrefixesFit (Some text) (prefix ∷ prefixes) = ⊥
PrefixesFit None (prefix ∷ []) = Unit {0}
PrefixesFit None (one ∷ prefix ∷ prefixes) = ⊥

abbrev OneWay : Bool → Bool → List Setting → Type 0
OneWay only enabled settings = ((only || list_any is_preprocess_only settings) && (not enabled || list_any is_no_preprocessor settings)) ≡ false

record Fit (file prefix : Option (List ℕ)) (only enabled : Bool) (settings : List Setting) : Type 0 where
  files : FilesFit file (flat_map file_of settings)
  prefixes : PrefixesFit prefix (flat_map prefix_of settings)
  one_way : OneWay only enabled settings

one_file : (c : ℕ) (cs : List ℕ) (files : List (List ℕ)) → FilesFit (Some (c ∷ cs)) files → FilesFit None ((c ∷ cs) ∷ files)
one_file c cs [] h = tt
one_file c cs (file ∷ files) h = h

no_more_files : (c : ℕ) (cs : List ℕ) (files : List (List ℕ)) → FilesFit None ((c ∷ cs) ∷ files) → FilesFit (Some (c ∷ cs)) files
no_more_files c cs [] h = tt
no_more_files c cs (file ∷ files) h = h

one_prefix : (prefix : List ℕ) (prefixes : List (List ℕ)) → PrefixesFit (Some prefix) prefixes → PrefixesFit None (prefix ∷ prefixes)
one_prefix prefix [] h = tt
one_prefix prefix (more ∷ prefixes) h = h

no_more_prefixes : (prefix : List ℕ) (prefixes : List (List ℕ)) → PrefixesFit None (prefix ∷ prefixes) → PrefixesFit (Some prefix) prefixes
no_more_prefixes prefix [] h = tt
no_more_prefixes prefix (more ∷ prefixes) h = h

-- ---- no further setting

first_or_nil : (o : Option (List ℕ)) → first_or o [] ≡ o
first_or_nil None = refl
first_or_nil (Some text) = refl

or_no : (b : Bool) → (b || false) ≡ b
or_no true = refl
or_no false = refl

and_yes : (b : Bool) → (b && true) ≡ b
and_yes true = refl
and_yes false = refl

switches_nil : (switches : Switches) → switches_with switches [] ≡ switches
switches_nil switches = λ i. record { brief = or_no switches.brief i; strict = or_no switches.strict i; c_text = or_no switches.c_text i; listing = or_no switches.listing i; generic = or_no switches.generic i; fold = and_yes switches.fold i; short = and_yes switches.short i; shorten = and_yes switches.shorten i; wrap = or_no switches.wrap i; acpica = or_no switches.acpica i; remarks = and_yes switches.remarks i; warnings = and_yes switches.warnings i; errors = and_yes switches.errors i }

or_more : (a b c : Bool) → ((a || b) || c) ≡ (a || (b || c))
or_more true b c = refl
or_more false b c = refl

and_more : (a b c : Bool) → ((a && not b) && not c) ≡ (a && not (b || c))
and_more true true c = refl
and_more true false c = refl
and_more false b c = refl

switches_more : (switches : Switches) (switch : Switch) (rest : List Setting) → switches_with (with_switch switches switch) rest ≡ switches_with switches (Turned switch ∷ rest)
switches_more switches switch rest = λ i. record {
  brief = or_more switches.brief (is_brief switch) (list_any (turns is_brief) rest) i;
  strict = or_more switches.strict (is_strict switch) (list_any (turns is_strict) rest) i;
  c_text = or_more switches.c_text (is_c_text switch) (list_any (turns is_c_text) rest) i;
  listing = or_more switches.listing (is_listing switch) (list_any (turns is_listing) rest) i;
  generic = or_more switches.generic (is_generic switch) (list_any (turns is_generic) rest) i;
  fold = and_more switches.fold (keeps_constants switch) (list_any (turns keeps_constants) rest) i;
  short = and_more switches.short (keeps_integers switch) (list_any (turns keeps_integers) rest) i;
  shorten = and_more switches.shorten (keeps_names switch) (list_any (turns keeps_names) rest) i;
  wrap = or_more switches.wrap (wraps_externals switch) (list_any (turns wraps_externals) rest) i;
  acpica = or_more switches.acpica (is_acpica switch) (list_any (turns is_acpica) rest) i;
  remarks = and_more switches.remarks (hides_remarks switch) (list_any (turns hides_remarks) rest) i;
  warnings = and_more switches.warnings (hides_warnings switch) (list_any (turns hides_warnings) rest) i;
  errors = and_more switches.errors (hides_errors switch) (list_any (turns hides_errors) rest) i;
}

extended_nil : (file prefix : Option (List ℕ)) (directories : List (List ℕ)) (definitions : List Define) (only enabled : Bool) (switches : Switches) (ignored : List (List ℕ)) → extended file prefix directories definitions only enabled switches ignored [] ≡ made file prefix directories definitions only enabled switches ignored
extended_nil file prefix directories definitions only enabled switches ignored =
    λ i. made (first_or_nil file i) (first_or_nil prefix i) (append-nil directories i) (append-nil definitions i) (or_no only i) (and_yes enabled i) (switches_nil switches i) (append-nil ignored i)

one_way_nil : (only enabled : Bool) → (only && not enabled) ≡ false → OneWay only enabled []
one_way_nil only enabled h = (λ i. or_no only i && or_no (not enabled) i) ∙ h

-- ---- settings that come one after another fit

abbrev Together : Option (List ℕ) → Option (List ℕ) → List (List ℕ) → List Define → Bool → Bool → Switches → List (List ℕ) → List Setting → Asked → Type 0
Together file prefix directories definitions only enabled switches ignored settings asked = Fit file prefix only enabled settings × (asked ≡ extended file prefix directories definitions only enabled switches ignored settings)

together : (file prefix : Option (List ℕ)) (directories : List (List ℕ)) (definitions : List Define) (only enabled : Bool) (switches : Switches) (ignored : List (List ℕ)) (settings : List Setting) (asked : Asked)
    → (only && not enabled) ≡ false → after (made file prefix directories definitions only enabled switches ignored) settings ≡ Some asked → Together file prefix directories definitions only enabled switches ignored settings asked
together file prefix directories definitions only enabled switches ignored [] asked sane e =
    let is : asked ≡ made file prefix directories definitions only enabled switches ignored = cc in
    (record { files = tt; prefixes = tt; one_way = one_way_nil only enabled sane }, is ∙ sym (extended_nil file prefix directories definitions only enabled switches ignored))
together file (Some text) directories definitions only enabled switches ignored (Prefix prefix ∷ rest) asked sane e = absurd cc
together file None directories definitions only enabled switches ignored (Prefix prefix ∷ rest) asked sane e =
    let h = together file (Some prefix) directories definitions only enabled switches ignored rest asked sane e in
    (record { files = h.0.files; prefixes = one_prefix prefix (flat_map prefix_of rest) h.0.prefixes; one_way = h.0.one_way }, h.1)
together file prefix directories definitions only enabled switches ignored (Directory directory ∷ rest) asked sane e =
    let h = together file prefix (directories ++ directory ∷ []) definitions only enabled switches ignored rest asked sane e in (
      record { files = h.0.files; prefixes = h.0.prefixes; one_way = h.0.one_way },
      h.1 ∙ ap (λ all. made (first_or file (flat_map file_of rest)) (first_or prefix (flat_map prefix_of rest)) all (definitions ++ flat_map definition_of rest) (only || list_any is_preprocess_only rest) (enabled && not (list_any is_no_preprocessor rest)) (switches_with switches rest) (ignored ++ flat_map ignored_of rest)) (append_assoc directories (directory ∷ []) (flat_map directory_of rest)),
    )
together file prefix directories definitions only enabled switches ignored (Definition name text ∷ rest) asked sane e =
    let h = together file prefix directories (definitions ++ define_of name text ∷ []) only enabled switches ignored rest asked sane e in (
      record { files = h.0.files; prefixes = h.0.prefixes; one_way = h.0.one_way },
      h.1 ∙ ap (λ all. made (first_or file (flat_map file_of rest)) (first_or prefix (flat_map prefix_of rest)) (directories ++ flat_map directory_of rest) all (only || list_any is_preprocess_only rest) (enabled && not (list_any is_no_preprocessor rest)) (switches_with switches rest) (ignored ++ flat_map ignored_of rest)) (append_assoc definitions (define_of name text ∷ []) (flat_map definition_of rest)),
    )
together file prefix directories definitions only enabled switches ignored (Ignored number ∷ rest) asked sane e =
    let h = together file prefix directories definitions only enabled switches (ignored ++ number ∷ []) rest asked sane e in (
      record { files = h.0.files; prefixes = h.0.prefixes; one_way = h.0.one_way },
      h.1 ∙ ap (λ all. made (first_or file (flat_map file_of rest)) (first_or prefix (flat_map prefix_of rest)) (directories ++ flat_map directory_of rest) (definitions ++ flat_map definition_of rest) (only || list_any is_preprocess_only rest) (enabled && not (list_any is_no_preprocessor rest)) (switches_with switches rest) all) (append_assoc ignored (number ∷ []) (flat_map ignored_of rest)),
    )
together file prefix directories definitions only false switches ignored (PreprocessOnly ∷ rest) asked sane e = absurd cc
together file prefix directories definitions true true switches ignored (PreprocessOnly ∷ rest) asked sane e =
    let h = together file prefix directories definitions true true switches ignored rest asked refl e in
    (record { files = h.0.files; prefixes = h.0.prefixes; one_way = h.0.one_way }, h.1)
together file prefix directories definitions false true switches ignored (PreprocessOnly ∷ rest) asked sane e =
    let h = together file prefix directories definitions true true switches ignored rest asked refl e in
    (record { files = h.0.files; prefixes = h.0.prefixes; one_way = h.0.one_way }, h.1)
together file prefix directories definitions true enabled switches ignored (NoPreprocessor ∷ rest) asked sane e = absurd cc
together file prefix directories definitions false true switches ignored (NoPreprocessor ∷ rest) asked sane e =
    let h = together file prefix directories definitions false false switches ignored rest asked refl e in
    (record { files = h.0.files; prefixes = h.0.prefixes; one_way = h.0.one_way }, h.1)
together file prefix directories definitions false false switches ignored (NoPreprocessor ∷ rest) asked sane e =
    let h = together file prefix directories definitions false false switches ignored rest asked refl e in
    (record { files = h.0.files; prefixes = h.0.prefixes; one_way = h.0.one_way }, h.1)
together file prefix directories definitions only enabled switches ignored (Turned switch ∷ rest) asked sane e =
    let h = together file prefix directories definitions only enabled (with_switch switches switch) ignored rest asked sane e in (
      record { files = h.0.files; prefixes = h.0.prefixes; one_way = h.0.one_way },
      h.1 ∙ ap (λ all. made (first_or file (flat_map file_of rest)) (first_or prefix (flat_map prefix_of rest)) (directories ++ flat_map directory_of rest) (definitions ++ flat_map definition_of rest) (only || list_any is_preprocess_only rest) (enabled && not (list_any is_no_preprocessor rest)) all (ignored ++ flat_map ignored_of rest)) (switches_more switches switch rest),
    )
together file prefix directories definitions only enabled switches ignored (File [] ∷ rest) asked sane e = absurd cc
together (Some text) prefix directories definitions only enabled switches ignored (File (c ∷ cs) ∷ rest) asked sane e = absurd cc
together None prefix directories definitions only enabled switches ignored (File (c ∷ cs) ∷ rest) asked sane e =
    let h = together (Some (c ∷ cs)) prefix directories definitions only enabled switches ignored rest asked sane e in
    (record { files = one_file c cs (flat_map file_of rest) h.0.files; prefixes = h.0.prefixes; one_way = h.0.one_way }, h.1)

-- ---- settings that fit come one after another

each_comes : (file prefix : Option (List ℕ)) (directories : List (List ℕ)) (definitions : List Define) (only enabled : Bool) (switches : Switches) (ignored : List (List ℕ)) (settings : List Setting)
    → Fit file prefix only enabled settings → after (made file prefix directories definitions only enabled switches ignored) settings ≡ Some (extended file prefix directories definitions only enabled switches ignored settings)
each_comes file prefix directories definitions only enabled switches ignored [] fit = sym (ap Some (extended_nil file prefix directories definitions only enabled switches ignored))
each_comes file (Some text) directories definitions only enabled switches ignored (Prefix prefix ∷ rest) fit = absurd fit.prefixes
each_comes file None directories definitions only enabled switches ignored (Prefix prefix ∷ rest) fit =
    each_comes file (Some prefix) directories definitions only enabled switches ignored rest (record { files = fit.files; prefixes = no_more_prefixes prefix (flat_map prefix_of rest) fit.prefixes; one_way = fit.one_way })
each_comes file prefix directories definitions only enabled switches ignored (Directory directory ∷ rest) fit =
    each_comes file prefix (directories ++ directory ∷ []) definitions only enabled switches ignored rest (record { files = fit.files; prefixes = fit.prefixes; one_way = fit.one_way })
    ∙ ap (λ all. Some (made (first_or file (flat_map file_of rest)) (first_or prefix (flat_map prefix_of rest)) all (definitions ++ flat_map definition_of rest) (only || list_any is_preprocess_only rest) (enabled && not (list_any is_no_preprocessor rest)) (switches_with switches rest) (ignored ++ flat_map ignored_of rest))) (append_assoc directories (directory ∷ []) (flat_map directory_of rest))
each_comes file prefix directories definitions only enabled switches ignored (Definition name text ∷ rest) fit =
    each_comes file prefix directories (definitions ++ define_of name text ∷ []) only enabled switches ignored rest (record { files = fit.files; prefixes = fit.prefixes; one_way = fit.one_way })
    ∙ ap (λ all. Some (made (first_or file (flat_map file_of rest)) (first_or prefix (flat_map prefix_of rest)) (directories ++ flat_map directory_of rest) all (only || list_any is_preprocess_only rest) (enabled && not (list_any is_no_preprocessor rest)) (switches_with switches rest) (ignored ++ flat_map ignored_of rest))) (append_assoc definitions (define_of name text ∷ []) (flat_map definition_of rest))
each_comes file prefix directories definitions only enabled switches ignored (Ignored number ∷ rest) fit =
    each_comes file prefix directories definitions only enabled switches (ignored ++ number ∷ []) rest (record { files = fit.files; prefixes = fit.prefixes; one_way = fit.one_way })
    ∙ ap (λ all. Some (made (first_or file (flat_map file_of rest)) (first_or prefix (flat_map prefix_of rest)) (directories ++ flat_map directory_of rest) (definitions ++ flat_map definition_of rest) (only || list_any is_preprocess_only rest) (enabled && not (list_any is_no_preprocessor rest)) (switches_with switches rest) all)) (append_assoc ignored (number ∷ []) (flat_map ignored_of rest))
each_comes file prefix directories definitions true false switches ignored (PreprocessOnly ∷ rest) fit = let h = fit.one_way in absurd cc
each_comes file prefix directories definitions false false switches ignored (PreprocessOnly ∷ rest) fit = let h = fit.one_way in absurd cc
each_comes file prefix directories definitions true true switches ignored (PreprocessOnly ∷ rest) fit = each_comes file prefix directories definitions true true switches ignored rest (record { files = fit.files; prefixes = fit.prefixes; one_way = fit.one_way })
each_comes file prefix directories definitions false true switches ignored (PreprocessOnly ∷ rest) fit = each_comes file prefix directories definitions true true switches ignored rest (record { files = fit.files; prefixes = fit.prefixes; one_way = fit.one_way })
each_comes file prefix directories definitions true true switches ignored (NoPreprocessor ∷ rest) fit = let h = fit.one_way in absurd cc
each_comes file prefix directories definitions true false switches ignored (NoPreprocessor ∷ rest) fit = let h = fit.one_way in absurd cc
each_comes file prefix directories definitions false true switches ignored (NoPreprocessor ∷ rest) fit = each_comes file prefix directories definitions false false switches ignored rest (record { files = fit.files; prefixes = fit.prefixes; one_way = fit.one_way })
each_comes file prefix directories definitions false false switches ignored (NoPreprocessor ∷ rest) fit = each_comes file prefix directories definitions false false switches ignored rest (record { files = fit.files; prefixes = fit.prefixes; one_way = fit.one_way })
each_comes file prefix directories definitions only enabled switches ignored (Turned switch ∷ rest) fit =
    each_comes file prefix directories definitions only enabled (with_switch switches switch) ignored rest (record { files = fit.files; prefixes = fit.prefixes; one_way = fit.one_way })
    ∙ ap (λ all. Some (made (first_or file (flat_map file_of rest)) (first_or prefix (flat_map prefix_of rest)) (directories ++ flat_map directory_of rest) (definitions ++ flat_map definition_of rest) (only || list_any is_preprocess_only rest) (enabled && not (list_any is_no_preprocessor rest)) all (ignored ++ flat_map ignored_of rest))) (switches_more switches switch rest)
each_comes (Some text) prefix directories definitions only enabled switches ignored (File file ∷ rest) fit = absurd fit.files
each_comes None prefix directories definitions only enabled switches ignored (File [] ∷ rest) fit = absurd fit.files
each_comes None prefix directories definitions only enabled switches ignored (File (c ∷ cs) ∷ rest) fit =
    each_comes (Some (c ∷ cs)) prefix directories definitions only enabled switches ignored rest (record { files = no_more_files c cs (flat_map file_of rest) fit.files; prefixes = fit.prefixes; one_way = fit.one_way })

-- ---- from the beginning

abbrev OneFile : List (List ℕ) → Type 0
OneFile files = (c : ℕ) × (cs : List ℕ) × (files ≡ (c ∷ cs) ∷ [])

one_of : (files : List (List ℕ)) → FilesFit None files → is_some (first files) ≡ true → OneFile files
one_of [] h some = absurd cc
one_of ([] ∷ files) h some = absurd h
one_of ((c ∷ cs) ∷ []) h some = (c, cs, refl)
one_of ((c ∷ cs) ∷ file ∷ files) h some = absurd h

at_most_one : (prefixes : List (List ℕ)) → PrefixesFit None prefixes → length prefixes ≤ 1
at_most_one [] h = omega arith
at_most_one (prefix ∷ []) h = omega arith
at_most_one (prefix ∷ more ∷ prefixes) h = absurd h

few_prefixes : (prefixes : List (List ℕ)) → length prefixes ≤ 1 → PrefixesFit None prefixes
few_prefixes [] h = tt
few_prefixes (prefix ∷ []) h = tt
few_prefixes (prefix ∷ more ∷ prefixes) h = absurd (omega arith)

-- settings that come one after another, a file among them, are good
pub good_settings : (settings : List Setting) (asked : Asked) → after nothing settings ≡ Some asked → is_some asked.file ≡ true → IsGood settings × (asked ≡ said settings)
good_settings settings asked e some =
    let h = together None None [] [] false true no_switch [] settings asked refl e in
    let named : is_some (first (flat_map file_of settings)) ≡ true = sym (ap (λ all. is_some all.file) h.1) ∙ some in
    (record { file = one_of (flat_map file_of settings) h.0.files named; prefix = at_most_one (flat_map prefix_of settings) h.0.prefixes; preprocessor = h.0.one_way }, h.1)

-- good settings come one after another
pub good_comes : (settings : List Setting) → IsGood settings → (after nothing settings ≡ Some (said settings)) × (is_some (said settings).file ≡ true)
good_comes settings good =
    let e = good.file.2 in
    let files : FilesFit None (flat_map file_of settings) = subst (FilesFit None) (sym e) tt in (
      each_comes None None [] [] false true no_switch [] settings (record { files = files; prefixes = few_prefixes (flat_map prefix_of settings) good.prefix; one_way = good.preprocessor }),
      ap (λ all. is_some (first all)) e,
    )
