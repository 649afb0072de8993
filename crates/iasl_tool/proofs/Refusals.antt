-- What is refused, by relations, is what has status 1.
use Rattle.std.proofs.Common.{◌≡◌, ℕ, ◌<◌, ◌≤◌, ◌⊎◌, inl, inr, Bool, true, false, List, [], ◌∷◌, ◌++◌, length, drop, suc, Option, Some, None, Result, Ok, Err, refl, sym, ap, ◌∙◌, subst, arith}
use Rattle.std.specs.Prelude.{nat_le, ◌&&◌, cond, if◌then◌else◌}
use Rattle.iasl_ports.specs.Gained.{Named}
use Rattle.iasl_ports.specs.Delivery.{Answer, status_of, text_of}
use Rattle.iasl_messages.specs.declared.place.Line.{Line}
use Rattle.iasl_messages.specs.declared.message.Message.{Message}
use Rattle.iasl_messages.specs.declared.place.Place.{Place}
use Rattle.iasl_messages.specs.Console.{preprocessed_line}
use Rattle.iasl_runs.specs.Ends.{World, IsQuiet, Ends}
use Rattle.asl_preprocess.specs.Preprocess.{Preprocessed, Given, Stopped, Absent, preprocessed}
use Rattle.asl_lexer.specs.declared.token.Token.{Token}
use Rattle.asl_lexer.specs.declared.mode.Fault.{Fault}
use Rattle.asl_lexer.specs.Marks.{tokens_of, message_of}
use Rattle.asl_lexer.specs.Cut.{IsCut}
use Rattle.asl_lexer.proofs.Told.{tokens_are_cut, cut_is_tokens, fault_is, fault_is_told}
use Rattle.asl_syntax.specs.declared.raw.Raw.{Raw}
use Rattle.asl_syntax.specs.Marks.{marks}
use Rattle.asl_parser.specs.Parse.{ParseOutcome, outcome, sunk, tall}
use Rattle.asl_syntax.specs.Written.{writtens}
use Rattle.asl_shape.specs.Forms.{source_errors, alone, block_place}
use Rattle.aml_sizes.specs.TableSizes.{most_table_bytes}
use Rattle.data_tables.specs.Compiling.{Answer as DataAnswer}
use Rattle.iasl_options.specs.Asking.{Asked}
use Rattle.iasl_options.specs.CommandLine.{IsCommandLine}
use Rattle.iasl_options.specs.Task.{Task, Compiles, Generates, Templates, task_by}
use Rattle.iasl_options.proofs.Tasks.{task_from, task_to}
use Rattle.generated_lines.specs.Generated.{generated_lines}
use Rattle.program_shapes.specs.Sources.{fields_in, IsRightSource}
use Rattle.block_outcomes.specs.declared.outcome.Class.{Class}
use Rattle.block_outcomes.specs.declared.outcome.Class.TheVariants as class
use Rattle.block_outcomes.specs.declared.outcome.Compiled.{Compiled}
use Rattle.block_outcomes.specs.declared.outcome.Compiled.TheVariants.{Made, Refused}
use Rattle.block_outcomes.specs.declared.outcome.Outcome.{Outcome}
use Rattle.block_outcomes.specs.declared.outcome.Outcome.TheVariants.{Done, Faulty}
use Rattle.block_outcomes.specs.declared.outcome.Table.{Table}
use Rattle.block_outcomes.specs.Joined.{first_told, if_class, of_class, tables_among, unless_refused, unless_noted}
use Rattle.asl_tables.specs.declared.compile.Style.{Style}
use Rattle.asl_tables.specs.Syntax.{not_source, too_deep}
use Rattle.asl_tables.specs.Compiled.{unlowered_in, own_in, all_noted, told_in, others_in, of_lines, of_items, outcome_in, outcomes_in, tables_of, unless_wrong, of_outcome, of_tokens, written_in, cut_in, too_long, EachWithin}
use Rattle.block_checks.specs.Told.{with_others}
use Rattle.asl_tables.proofs.Sources.{made_of, made_from}
use Rattle.table_outputs.specs.Files.{name_in_use}
use Rattle.iasl_tool.specs.Sources.{is_data_source, data_answer, of_data, of_source}
use Rattle.iasl_tool.specs.Due.{style_of, lines_of_tables, files_of_tables, unless_in_use, made_files, refusal, made_or_in_use, has_warning, text_name, text_of_lines, answer_to_text, answer_to_compiled, answer_to_preprocessed, answer_to_file, answer_to_task, answer_for, fault_text, memory_text}
use Rattle.iasl_tool.specs.Outside.{Tells}
use Rattle.iasl_tool.specs.Headline.{Request, a_file, devices, more_of, generated_request, NamesLines}
use Rattle.iasl_tool.specs.Refusals.{errors_alone, class_errors, AreItsErrors, of_form, of_names, of_kinds, of_lowering, of_length, IsSpelled, AreRefused, no_tokens, no_source, nested, wrong, RefusesNotes, IsRefused, stopped, text_warned, source_refused, source_warned, data_refused, data_warned, refusal_text, TellsRefusal}
use Rattle.iasl_tool.proofs.Readings.{spelled_is_outcome}
use Rattle.iasl_tool.proofs.Fates.{Fate, is_read, is_stopped, is_sunk, is_tall, fate, stop_is, deep_is, stop_number, deep_number, front_within}
use Rattle.iasl_tool.proofs.Headline.{given_is}

-- ---- what lines come to

-- what a block's outcome tells
abbrev told_of : Outcome → List Message
told_of (Done signature own pieces) = []
told_of (Faulty messages) = messages

first_class : (c : Class) (o : Outcome) (os : List Outcome) → of_class c (o ∷ os) ≡ if_class c (told_of o) ++ of_class c os
first_class c (Done signature own pieces) os = refl
first_class c (Faulty messages) os = refl

-- it is what is wrong with the block that is read alone
alone_told : (style : Style) (lines : List Line) (item : Raw) → told_of (outcome_in style lines (alone item)) ≡ errors_alone style item
alone_told style lines item = by (with_others (told_in (alone item)) (others_in (alone item))) (unlowered_in style (alone item)) (nat_le (length (written_in style (alone item))) most_table_bytes)
  where
    place : Place
    place = block_place (writtens (alone item))

    by : (wrong unlowered : List Message) (fits : Bool)
        → told_of (unless_wrong wrong (unless_wrong unlowered (if fits then Done (fields_in (alone item)).signature (own_in (alone item)) (cut_in style lines (alone item)) else Faulty (too_long place ∷ []))))
        ≡ first_told wrong (first_told unlowered (if fits then [] else too_long place ∷ []))
    by [] [] true = refl
    by [] [] false = refl
    by [] (l ∷ ls) fits = refl
    by (w ∷ ws) unlowered fits = refl

classes_are : (c : Class) (style : Style) (lines : List Line) (items : List Raw) → of_class c (outcomes_in style lines items) ≡ class_errors c style items
classes_are c style lines [] = refl
classes_are c style lines (item ∷ items) =
    first_class c (outcome_in style lines (alone item)) (outcomes_in style lines items)
    ∙ ap (λ es. if_class c es ++ of_class c (outcomes_in style lines items)) (alone_told style lines item)
    ∙ ap (λ es. if_class c (errors_alone style item) ++ es) (classes_are c style lines items)

-- a source by the classes of its errors
abbrev by_classes : Style → List Line → List Raw → (form names kinds lowering sizes : List Message) → Compiled
by_classes style lines items form names kinds lowering sizes =
    unless_refused form (unless_refused names (unless_noted (first_told kinds (first_told lowering sizes)) (all_noted items) (Made (tables_among (outcomes_in style lines items)) (all_noted items))))

abbrev class_in : Style → List Line → List Raw → Class → List Message
class_in style lines items c = of_class c (outcomes_in style lines items)

same_refused : (xs ys : List Message) → Refused xs ≡ Refused ys → xs ≡ ys
same_refused xs ys e = cc

-- Lines that are refused, or spell a source in which nothing is wrong.
data Comes (style : Style) (lines : List Line) : Compiled → Type 0 where
  are_refused : (messages : List Message) → AreRefused style lines messages → Comes style lines (Refused messages)
  are_right : (tokens : List Token) (items : List Raw) → IsSpelled lines tokens items → IsRightSource items → EachWithin style items → Comes style lines (Made (tables_of style lines items) (all_noted items))

module _ (style : Style) (lines : List Line) where
  -- ---- what is told is what is wrong, by its first class

  module _ (items : List Raw) (messages : List Message) where
    abbrev names_in : List Message
    names_in = class_in style lines items class.Names

    abbrev kinds_in : List Message
    kinds_in = class_in style lines items class.Kinds

    abbrev lowering_in : List Message
    lowering_in = class_in style lines items class.Lowering

    abbrev sizes_in : List Message
    sizes_in = class_in style lines items class.Sizes

    are : (c : Class) (es : List Message) → class_in style lines items c ≡ es → class_errors c style items ≡ es
    are c es e = sym (classes_are c style lines items) ∙ e

    by_sizes : (sizes : List Message) → source_errors items ≡ [] → names_in ≡ [] → kinds_in ≡ [] → lowering_in ≡ [] → sizes_in ≡ sizes → by_classes style lines items [] [] [] [] sizes ≡ Refused messages → AreItsErrors style items messages
    by_sizes [] form names kinds lowering sizes e = absurd cc
    by_sizes (m ∷ ms) form names kinds lowering sizes e =
        subst (AreItsErrors style items) (same_refused ((m ∷ ms) ++ all_noted items) messages e) (of_length m ms form (are class.Names [] names) (are class.Kinds [] kinds) (are class.Lowering [] lowering) (are class.Sizes (m ∷ ms) sizes))

    by_lowering : (lowering : List Message) → source_errors items ≡ [] → names_in ≡ [] → kinds_in ≡ [] → lowering_in ≡ lowering → by_classes style lines items [] [] [] lowering sizes_in ≡ Refused messages → AreItsErrors style items messages
    by_lowering [] form names kinds lowering e = by_sizes sizes_in form names kinds lowering refl e
    by_lowering (m ∷ ms) form names kinds lowering e =
        subst (AreItsErrors style items) (same_refused ((m ∷ ms) ++ all_noted items) messages e) (of_lowering m ms form (are class.Names [] names) (are class.Kinds [] kinds) (are class.Lowering (m ∷ ms) lowering))

    by_kinds : (kinds : List Message) → source_errors items ≡ [] → names_in ≡ [] → kinds_in ≡ kinds → by_classes style lines items [] [] kinds lowering_in sizes_in ≡ Refused messages → AreItsErrors style items messages
    by_kinds [] form names kinds e = by_lowering lowering_in form names kinds refl e
    by_kinds (m ∷ ms) form names kinds e =
        subst (AreItsErrors style items) (same_refused ((m ∷ ms) ++ all_noted items) messages e) (of_kinds m ms form (are class.Names [] names) (are class.Kinds (m ∷ ms) kinds))

    by_names : (names : List Message) → source_errors items ≡ [] → names_in ≡ names → by_classes style lines items [] names kinds_in lowering_in sizes_in ≡ Refused messages → AreItsErrors style items messages
    by_names [] form names e = by_kinds kinds_in form names refl e
    by_names (m ∷ ms) form names e = subst (AreItsErrors style items) (same_refused (m ∷ ms) messages e) (of_names m ms form (are class.Names (m ∷ ms) names))

    by_form : (form : List Message) → source_errors items ≡ form → by_classes style lines items form names_in kinds_in lowering_in sizes_in ≡ Refused messages → AreItsErrors style items messages
    by_form [] form e = by_names names_in form refl e
    by_form (m ∷ ms) form e = subst (AreItsErrors style items) (same_refused (m ∷ ms) messages e) (of_form m ms form)

  by_items : (tokens : List Token) (items : List Raw) (it : Compiled) → IsSpelled lines tokens items → of_items style lines items ≡ it → Comes style lines it
  by_items tokens items (Made tables notes) spelled e =
      let right = made_from style lines items tables notes e in
      subst (Comes style lines) (sym (made_of style lines items right.0 right.1) ∙ e) (are_right tokens items spelled right.0 right.1)
  by_items tokens items (Refused messages) spelled e = are_refused messages (wrong tokens items messages spelled (by_form items messages (source_errors items) refl e))

  by_fate : (tokens : List Token) (o : ParseOutcome) → IsCut lines tokens → Fate tokens o → Comes style lines (of_outcome style lines tokens o)
  by_fate tokens o cut (is_read items spelled shallow low) =
      by_items tokens items (of_items style lines items) (record { tokens_are = cut; spelled = spelled; shallow = shallow; low = low }) refl
  by_fate tokens o cut (is_stopped k front shallow) =
      subst (λ (n : ℕ). Comes style lines (Refused (not_source tokens n ∷ []))) (sym (stop_number tokens k (front_within tokens k front))) (are_refused (not_source tokens k ∷ []) (no_source tokens k cut front shallow))
  by_fate tokens o cut (is_sunk k lt deep) =
      subst (λ (n : ℕ). Comes style lines (Refused (too_deep tokens n ∷ []))) (sym (deep_number tokens k lt)) (are_refused (too_deep tokens k ∷ []) (nested tokens k cut deep))
  by_fate tokens o cut (is_tall k deep) = are_refused (too_deep tokens k ∷ []) (nested tokens k cut deep)

  by_tokens : (r : Result (List Token) Fault) → tokens_of lines ≡ r → Comes style lines (of_tokens style lines r)
  by_tokens (Err fault) e = are_refused (message_of fault ∷ []) (no_tokens fault (fault_is lines fault e))
  by_tokens (Ok tokens) e = by_fate tokens (outcome tokens) (tokens_are_cut lines tokens e) (fate tokens)

  comes : Comes style lines (of_lines style lines)
  comes = by_tokens (tokens_of lines) refl

  -- ---- what is refused has its messages

  module _ (items : List Raw) where
    -- the classes of a source's outcomes
    told : (c : Class) (es : List Message) → class_errors c style items ≡ es → class_in style lines items c ≡ es
    told c es e = classes_are c style lines items ∙ e

    errors_are : (messages : List Message) → AreItsErrors style items messages → of_items style lines items ≡ Refused messages
    errors_are messages (of_form m ms form) = λ i. by_classes style lines items (form i) (class_in style lines items class.Names) (class_in style lines items class.Kinds) (class_in style lines items class.Lowering) (class_in style lines items class.Sizes)
    errors_are messages (of_names m ms form names) =
        let ns = told class.Names (m ∷ ms) names in
        λ i. by_classes style lines items (form i) (ns i) (class_in style lines items class.Kinds) (class_in style lines items class.Lowering) (class_in style lines items class.Sizes)
    errors_are messages (of_kinds m ms form names kinds) =
        let ns = told class.Names [] names in
        let ks = told class.Kinds (m ∷ ms) kinds in
        λ i. by_classes style lines items (form i) (ns i) (ks i) (class_in style lines items class.Lowering) (class_in style lines items class.Sizes)
    errors_are messages (of_lowering m ms form names kinds lowering) =
        let ns = told class.Names [] names in
        let ks = told class.Kinds [] kinds in
        let ls = told class.Lowering (m ∷ ms) lowering in
        λ i. by_classes style lines items (form i) (ns i) (ks i) (ls i) (class_in style lines items class.Sizes)
    errors_are messages (of_length m ms form names kinds lowering sizes) =
        let ns = told class.Names [] names in
        let ks = told class.Kinds [] kinds in
        let ls = told class.Lowering [] lowering in
        let ss = told class.Sizes (m ∷ ms) sizes in
        λ i. by_classes style lines items (form i) (ns i) (ks i) (ls i) (ss i)

  cut_to : (tokens : List Token) → IsCut lines tokens → of_lines style lines ≡ of_outcome style lines tokens (outcome tokens)
  cut_to tokens cut = ap (of_tokens style lines) (cut_is_tokens lines tokens cut)

  spelled_to : (tokens : List Token) (items : List Raw) → IsSpelled lines tokens items → of_lines style lines ≡ of_items style lines items
  spelled_to tokens items s = cut_to tokens s.tokens_are ∙ ap (of_outcome style lines tokens) (spelled_is_outcome items tokens s.spelled s.shallow s.low)

  refused_are : (messages : List Message) → AreRefused style lines messages → of_lines style lines ≡ Refused messages
  refused_are messages (no_tokens fault has) = ap (of_tokens style lines) (fault_is_told lines fault has)
  refused_are messages (no_source tokens k cut front shallow) =
      cut_to tokens cut ∙ ap (of_outcome style lines tokens) (stop_is tokens k front shallow) ∙ ap (λ (n : ℕ). Refused (not_source tokens n ∷ [])) (stop_number tokens k (front_within tokens k front))
  refused_are messages (nested tokens k cut deep) = cut_to tokens cut ∙ by (deep_is tokens k deep)
    where
      by : ((k < length tokens) × (outcome tokens ≡ sunk (drop (suc k) (marks 0 tokens)))) ⊎ (outcome tokens ≡ tall k) → of_outcome style lines tokens (outcome tokens) ≡ Refused (too_deep tokens k ∷ [])
      by (inl h) = ap (of_outcome style lines tokens) h.1 ∙ ap (λ (n : ℕ). Refused (too_deep tokens n ∷ [])) (deep_number tokens k h.0)
      by (inr h) = ap (of_outcome style lines tokens) h
  refused_are messages (wrong tokens items ms spelled errors) = spelled_to tokens items spelled ∙ errors_are items ms errors

-- ---- what a call is to end with

-- what is refused of what the words name
record Refusal (words : List (List ℕ)) (told : List Named) : Type 0 where
  request : Request
  files : List (List ℕ)
  messages : List Message
  refused : IsRefused words told request files messages

abbrev status_with : (words : List (List ℕ)) (told : List Named) (request : Request) → NamesLines words told request → Compiled → ℕ
status_with words told request named it = status_of (Some (answer_to_compiled request.asked request.file named.files named.notes (more_of named.come) it))

module _ (words : List (List ℕ)) (told : List Named) where
  both_true : (asked : Asked) (notes : List Message) → RefusesNotes asked notes → (asked.switches.strict && has_warning asked.ignored notes) ≡ true
  both_true asked notes h = λ i. h.strict i && h.warned i

  asl_is : (request : Request) (lines : List Line) (it : Compiled) → is_data_source request.asked.switches.generic lines ≡ false → of_lines (style_of request.asked) lines ≡ it → of_source request.asked.switches.generic (style_of request.asked) lines ≡ it
  asl_is request lines it asl e = ap (λ c. cond c (of_data (data_answer request.asked.switches.generic lines)) (of_lines (style_of request.asked) lines)) asl ∙ e

  data_is : (request : Request) (lines : List Line) (answer : DataAnswer) → is_data_source request.asked.switches.generic lines ≡ true → data_answer request.asked.switches.generic lines ≡ answer → of_source request.asked.switches.generic (style_of request.asked) lines ≡ of_data answer
  data_is request lines answer kind e = ap (λ c. cond c (of_data (data_answer request.asked.switches.generic lines)) (of_lines (style_of request.asked) lines)) kind ∙ ap of_data e

  -- tables of which a note is a warning are refused
  warned_is : (asked : Asked) (file : List ℕ) (files : List (List ℕ)) (notes : List Message) (more : List ℕ) (tables : List Table) (behind : List Message) → RefusesNotes asked (notes ++ behind)
      → answer_to_compiled asked file files notes more (Made tables behind) ≡ refusal asked files (notes ++ behind)
  warned_is asked file files notes more tables behind h =
      let made = made_or_in_use asked files (notes ++ behind) (lines_of_tables asked file tables ++ more) (files_of_tables asked file tables) in
      ap (λ c. cond c (refusal asked files (notes ++ behind)) made) (both_true asked (notes ++ behind) h)

  preprocessed_is : (request : Request) (p : Preprocessed) → IsCommandLine words request.asked → request.asked.file ≡ Some request.file → preprocessed told request.file request.asked.directories request.asked.definitions request.asked.enabled ≡ p → answer_for words told ≡ answer_to_preprocessed request.asked request.file p
  preprocessed_is request p line file_is e =
      ap (answer_to_task told) (task_to words (Compiles request.asked) line)
      ∙ ap (answer_to_file request.asked told) file_is
      ∙ ap (answer_to_preprocessed request.asked request.file) e

  -- what is refused has its refusal as the answer
  refused_answer : (request : Request) (files : List (List ℕ)) (messages : List Message) → IsRefused words told request files messages → answer_for words told ≡ Some (refusal request.asked files messages)
  refused_answer request files messages (stopped message fs line file_is e) = preprocessed_is request (Stopped message fs) line file_is e
  refused_answer request files messages (text_warned fs lines notes line file_is only e h) =
      let asked = request.asked in
      let file = request.file in
      let made = made_or_in_use asked fs notes (preprocessed_line (text_name asked file)) ((text_name asked file, text_of_lines lines) ∷ []) in
      preprocessed_is request (Given fs lines notes) line file_is e
      ∙ ap (λ c. Some (cond c (answer_to_text asked file fs lines notes) (answer_to_compiled asked file fs notes [] (of_source asked.switches.generic (style_of asked) lines)))) only
      ∙ ap (λ c. Some (cond c (refusal asked fs notes) made)) (both_true asked notes h)
  refused_answer request files messages (source_refused named ms asl h) =
      given_is words told request named (Refused ms) (asl_is request named.lines (Refused ms) asl (refused_are (style_of request.asked) named.lines ms h))
  refused_answer request files messages (source_warned named tokens items asl spelled right within h) =
      let style = style_of request.asked in
      let it : Compiled = Made (tables_of style named.lines items) (all_noted items) in
      given_is words told request named it (asl_is request named.lines it asl (spelled_to style named.lines tokens items spelled ∙ made_of style named.lines items right within))
      ∙ ap Some (warned_is request.asked request.file named.files named.notes (more_of named.come) (tables_of style named.lines items) (all_noted items) h)
  refused_answer request files messages (data_refused named faults kind e) = given_is words told request named (Refused faults) (data_is request named.lines (Err faults) kind e)
  refused_answer request files messages (data_warned named table kind e h) =
      given_is words told request named (of_data (Ok table)) (data_is request named.lines (Ok table) kind e)
      ∙ ap Some (warned_is request.asked request.file named.files named.notes (more_of named.come) (record { signature = table.signature; own = []; pieces = table.pieces } ∷ []) table.notes h)

  -- ---- and nothing else has status 1

  not_one : (asked : Asked) (o : Option (List ℕ)) (files : List (List ℕ)) (notes : List Message) (line : List ℕ) (due : List Named) → status_of (Some (unless_in_use o (made_files asked files notes line due))) ≡ 1 → ⊥
  not_one asked None files notes line due h = absurd (omega (arith, h))
  not_one asked (Some name) files notes line due h = absurd (omega (arith, h))

  warned_from : (asked : Asked) (notes : List Message) → (asked.switches.strict && has_warning asked.ignored notes) ≡ true → RefusesNotes asked notes
  warned_from asked notes e = by asked.switches.strict refl e
    where
      by : (c : Bool) → asked.switches.strict ≡ c → (c && has_warning asked.ignored notes) ≡ true → RefusesNotes asked notes
      by true f h = record { strict = f; warned = h }
      by false f h = absurd cc

  -- files that are made have status 1 only by a warning
  by_warning : (asked : Asked) (files : List (List ℕ)) (notes : List Message) (line : List ℕ) (due : List Named) (c : Bool) → (asked.switches.strict && has_warning asked.ignored notes) ≡ c
      → status_of (Some (cond c (refusal asked files notes) (made_or_in_use asked files notes line due))) ≡ 1 → RefusesNotes asked notes
  by_warning asked files notes line due true e h = warned_from asked notes e
  by_warning asked files notes line due false e h = absurd (not_one asked (name_in_use files due) files notes line due h)

  tables_warned : (asked : Asked) (file : List ℕ) (files : List (List ℕ)) (notes : List Message) (more : List ℕ) (tables : List Table) (behind : List Message)
      → status_of (Some (answer_to_compiled asked file files notes more (Made tables behind))) ≡ 1 → RefusesNotes asked (notes ++ behind)
  tables_warned asked file files notes more tables behind h =
      by_warning asked files (notes ++ behind) (lines_of_tables asked file tables ++ more) (files_of_tables asked file tables) (asked.switches.strict && has_warning asked.ignored (notes ++ behind)) refl h

  by_source : (request : Request) (named : NamesLines words told request) (it : Compiled) → is_data_source request.asked.switches.generic named.lines ≡ false → Comes (style_of request.asked) named.lines it → status_with words told request named it ≡ 1 → Refusal words told
  by_source request named it asl (are_refused ms h) one = record { request = request; files = named.files; messages = named.notes ++ ms; refused = source_refused named ms asl h }
  by_source request named it asl (are_right tokens items spelled right within) one =
      let warned = tables_warned request.asked request.file named.files named.notes (more_of named.come) (tables_of (style_of request.asked) named.lines items) (all_noted items) one in
      record { request = request; files = named.files; messages = named.notes ++ all_noted items; refused = source_warned named tokens items asl spelled right within warned }

  by_data : (request : Request) (named : NamesLines words told request) (answer : DataAnswer) → is_data_source request.asked.switches.generic named.lines ≡ true → data_answer request.asked.switches.generic named.lines ≡ answer → status_with words told request named (of_data answer) ≡ 1 → Refusal words told
  by_data request named (Err faults) kind e one = record { request = request; files = named.files; messages = named.notes ++ faults; refused = data_refused named faults kind e }
  by_data request named (Ok table) kind e one =
      let warned = tables_warned request.asked request.file named.files named.notes (more_of named.come) (record { signature = table.signature; own = []; pieces = table.pieces } ∷ []) table.notes one in
      record { request = request; files = named.files; messages = named.notes ++ table.notes; refused = data_warned named table kind e warned }

  by_kind : (request : Request) (named : NamesLines words told request) (c : Bool) → is_data_source request.asked.switches.generic named.lines ≡ c
      → status_with words told request named (cond c (of_data (data_answer request.asked.switches.generic named.lines)) (of_lines (style_of request.asked) named.lines)) ≡ 1 → Refusal words told
  by_kind request named true kind one = by_data request named (data_answer request.asked.switches.generic named.lines) kind refl one
  by_kind request named false kind one = by_source request named (of_lines (style_of request.asked) named.lines) kind (comes (style_of request.asked) named.lines) one

  by_only : (request : Request) (files : List (List ℕ)) (lines : List Line) (notes : List Message) (c : Bool) → IsCommandLine words request.asked → request.asked.file ≡ Some request.file
      → preprocessed told request.file request.asked.directories request.asked.definitions request.asked.enabled ≡ Given files lines notes → request.asked.only ≡ c
      → status_of (Some (cond c (answer_to_text request.asked request.file files lines notes) (answer_to_compiled request.asked request.file files notes [] (of_source request.asked.switches.generic (style_of request.asked) lines)))) ≡ 1 → Refusal words told
  by_only request files lines notes true line file_is e only one =
      let asked = request.asked in
      let name = text_name asked request.file in
      let warned = by_warning asked files notes (preprocessed_line name) ((name, text_of_lines lines) ∷ []) (asked.switches.strict && has_warning asked.ignored notes) refl one in
      record { request = request; files = files; messages = notes; refused = text_warned files lines notes line file_is only e warned }
  by_only request files lines notes false line file_is e only one =
      by_kind request (record { files = files; lines = lines; notes = notes; come = a_file line file_is only e }) (is_data_source request.asked.switches.generic lines) refl one

  by_preprocessed : (request : Request) (p : Preprocessed) → IsCommandLine words request.asked → request.asked.file ≡ Some request.file → preprocessed told request.file request.asked.directories request.asked.definitions request.asked.enabled ≡ p → status_of (answer_to_preprocessed request.asked request.file p) ≡ 1 → Refusal words told
  by_preprocessed request (Given files lines notes) line file_is e one = by_only request files lines notes request.asked.only line file_is e refl one
  by_preprocessed request (Stopped message files) line file_is e one = record { request = request; files = files; messages = message ∷ []; refused = stopped message files line file_is e }
  by_preprocessed request Absent line file_is e one = absurd (omega (arith, one))

  by_file : (asked : Asked) (f : Option (List ℕ)) → IsCommandLine words asked → asked.file ≡ f → status_of (answer_to_file asked told f) ≡ 1 → Refusal words told
  by_file asked None line e one = absurd (omega (arith, one))
  by_file asked (Some file) line e one = by_preprocessed (record { asked = asked; file = file }) (preprocessed told file asked.directories asked.definitions asked.enabled) line e refl one

  by_words : (r : Result Task ℕ) → task_by words ≡ r → status_of (answer_to_task told r) ≡ 1 → Refusal words told
  by_words (Err word) e one = absurd (omega (arith, one))
  by_words (Ok (Templates table)) e one = absurd (omega (arith, one))
  by_words (Ok (Compiles asked)) e one = by_file asked asked.file (task_from words (Compiles asked) e) refl one
  by_words (Ok (Generates count)) e one =
      let lines = generated_lines count in
      by_kind generated_request (record { files = []; lines = lines; notes = []; come = devices count (task_from words (Generates count) e) refl refl refl refl }) (is_data_source false lines) refl one

-- ---- how a call ends

module _ (words : List (List ℕ)) (status : ℕ) (old new : World) (told : List Named) (end : Ends (answer_for words) fault_text memory_text status old new) (is : old.files.contents ≡ Some told) where
  -- 1 tells a refusal
  pub refuses : status ≡ 1 → TellsRefusal words told old new
  refuses one =
      let low : status ≤ 2 = omega (arith, one) in
      let r = by_words words told (task_by words) refl (end.settled low told is ∙ one) in
      record {
        request = r.request;
        files = r.files;
        messages = r.messages;
        refused = r.refused;
        text = subst (λ (o : Option Answer). Tells old new (text_of o)) (refused_answer words told r.request r.files r.messages r.refused) ((end.console told is).ended low);
      }

  by_end : (request : Request) (files : List (List ℕ)) (messages : List Message) → answer_for words told ≡ Some (refusal request.asked files messages) → (status ≡ status_of (answer_for words told)) ⊎ (status ≡ 4)
      → ((status ≡ 1) × Tells old new (refusal_text request files messages)) ⊎ (status ≡ 4)
  by_end request files messages answer (inl e) =
      let one : status ≡ 1 = e ∙ ap status_of answer in
      inl (one, subst (λ (o : Option Answer). Tells old new (text_of o)) answer ((end.console told is).ended (omega (arith, one))))
  by_end request files messages answer (inr e) = inr e

  -- and each refusal is told
  pub complete_refusal : (request : Request) (files : List (List ℕ)) (messages : List Message) → IsRefused words told request files messages → IsQuiet old new
      → ((status ≡ 1) × Tells old new (refusal_text request files messages)) ⊎ (status ≡ 4)
  complete_refusal request files messages h quiet = by_end request files messages (refused_answer words told request files messages h) (end.quiet told is quiet)
