-- Each error of a source stands in a file in which a part of it stands.
use Rattle.std.proofs.Common.{ℕ, suc, ◌+◌, ◌<◌, Bool, true, false, List, [], ◌∷◌, ◌++◌, Option, Some, None, Result, Ok, Err, arith}
use Rattle.std.specs.Prelude.{if◌then◌else◌, nat_eq, nat_le, not, ◌&&◌, ◌||◌}
use Rattle.std.specs.List.{All}
use Rattle.std.proofs.lemmas.List.Elements.{All-cons}
use Rattle.iasl_messages.specs.declared.place.Place.{Place}
use Rattle.iasl_messages.specs.declared.message.Message.{Message}
use Rattle.asl_syntax.specs.declared.raw.Raw.{Raw}
use Rattle.asl_tree.specs.declared.constant.NoConstant.{NoConstant}
use Rattle.asl_tree.specs.declared.path.Path.{Path}
use Rattle.asl_tree.specs.declared.term.Op.{Op}
use Rattle.asl_tree.specs.declared.term.Control.{Control}
use Rattle.asl_words.specs.declared.operator.Parameter.{Parameter}
use Rattle.asl_words.specs.declared.operator.Slot.{Slot}
use Rattle.asl_words.specs.declared.operator.Slot.TheVariants as slot
use Rattle.asl_words.specs.declared.operator.Body.{Body}
use Rattle.asl_words.specs.declared.operator.Body.TheVariants as braces
use Rattle.asl_words.specs.declared.operator.StringForm.{StringForm}
use Rattle.asl_words.specs.declared.operator.StringForm.TheVariants as form
use Rattle.asl_words.specs.declared.operator.TextMacro.{TextMacro}
use Rattle.word_meanings.specs.declared.meaning.Reading.{Reading}
use Rattle.word_meanings.specs.declared.meaning.Reading.TheVariants as read
use Rattle.asl_syntax.specs.Written as piece
use Rattle.asl_syntax.specs.Written.{Written, Writtens, WrittenGroup, item, apply, listed, comma, semicolon, empty, none, more, absent, given, written, writtens}
use Rattle.acpi_values.specs.Revisions.{width_of}
use Rattle.asl_shape.specs.Around.{outside}
use Rattle.asl_shape.specs.declared.around.Around.{Around}
use Rattle.asl_shape.specs.declared.fields.Due.{Due}
use Rattle.asl_shape.specs.declared.fields.UnitName.{UnitName}
use Rattle.acpi_state.specs.Outcomes.{choose}
use Rattle.acpi_values.specs.declared.width.Width.{Width}
use Rattle.acpi_values.specs.Paths.{NameSeg}
use Rattle.asl_tree.specs.Names.{single_segment}
use Rattle.term_plans.specs.Plans.{Plan, Plans, no_plans, plan_at, how_many, an_integer, a_name, is_omitted, constant_of}
use Rattle.asl_words.specs.Paths.{path_of}
use Rattle.asl_words.specs.declared.operator.FieldWord.{FieldWord}
use Rattle.word_meanings.specs.declared.meaning.Meaning.{Meaning}
use Rattle.asl_words.specs.Operators.{parameters_of, role_of, block_parameters, element_parameters, macro_parameters, parameters_as}
use Rattle.asl_words.specs.Operators.{body_as}
use Rattle.acpi_values.specs.Integers.{wrapped}
use Rattle.acpi_values.specs.declared.width.Width.TheVariants.{W64}
use Rattle.asl_terms.specs.Symbols.{symbol_of}
use Rattle.asl_terms.specs.Terms.{Shaped, fine, refused, unformed, holes_in, counted, count_faults, format_faults}
use Rattle.term_plans.specs.Places.{fault_at, nowhere}
use Rattle.asl_terms.specs.Terms.{valued, evaluated, after, checked, is_member, is_given, count, are_all_types, text_plan, number_shape}
use Rattle.asl_terms.specs.Terms.{string_shape, text_shape}
use Rattle.asl_shape.specs.Shapes.{room_faults, template_shape, descriptor_shape, is_number_list, takes, has_arguments}
use Rattle.asl_terms.specs.Terms.{path_shape, listed_shape, place_of, inside_of, is_element}
use Rattle.asl_shape.specs.Shapes.{call_shape, read_shape, item_shape, form_shape, symbol_shape, within, is_separator, is_listed, byte_slot}
use Rattle.asl_shape.specs.Shapes.{list_shape, skipped, run_after, bare, operands, call_args, arguments, arguments_in, contents, members}
use Rattle.asl_shape.specs.Shapes.{terms, meaning_in, element_shape}
use Rattle.asl_terms.specs.Terms.{macro_text, eisa_shape, uuid_shape, buffer_plan, case_member, case_value, is_case_member, member_count}
use Rattle.asl_terms.specs.Terms.{is_case_package}
use Rattle.asl_shape.specs.Shapes.{macro_shape, is_field_list, begin, named_unit, begun, first_place, inner_place, element_place}
use Rattle.asl_shape.specs.Shapes.{unit_behind, no_comma, field_part, field_slot, due_behind, elements, cases, default_after}
use Rattle.asl_words.specs.Resources.{descriptor_parameters, descriptor_body}
use Rattle.resource_layout.specs.declared.descriptor.Descriptor.{Descriptor}
use Rattle.asl_shape.specs.Descriptors.{is_roomy}
use Rattle.word_meanings.specs.Meanings.{unfit, item_fault, meaning_of, reading_of, takes_expression, takes_role, slot_as, is_whole, is_connection}
use Rattle.asl_words.specs.Texts.{is_all_text, has_form}
use Rattle.resource_macros.specs.Identifiers.{eisaid_of, uuid_of, utf16_of}
use Rattle.asl_shape.specs.Forms.{start, is_block_word, block_fault, errors_inside, block_errors, no_block, is_block_at, errors_before, first_errors, errors_of, errors_at, alone, errors_in_block, errors_in_blocks, stray_errors, source_errors, block_args, revision_in}
use Rattle.asl_terms.specs.AtRaw.{place_at}
use Rattle.asl_syntax.specs.Within.{IsIn, IsWithin, AreWithin, IsGroupWithin}
use Rattle.term_plans.specs.Places.{AreTold}

module _ (files : ℕ) where
  one : (n : ℕ) (place : Place) → IsIn files place → AreTold files (fault_at n place ∷ [])
  one n place h = (h, tt)

  both : (xs ys : List Message) → AreTold files xs → AreTold files ys → AreTold files (xs ++ ys)
  both [] ys h k = k
  both (x ∷ xs) ys h k = (h.0, both xs ys h.1 k)

  -- one choice or the other
  either : {A : Type 0} (c : Bool) (x y : Shaped A) → AreTold files x.faults → AreTold files y.faults → AreTold files (if c then x else y).faults
  either true x y h k = h
  either false x y h k = k

  string_told : (f : StringForm) (place : Place) (bytes : List ℕ) → IsIn files place → AreTold files (string_shape f place bytes).faults
  string_told f place bytes h = either (has_form f bytes && is_all_text bytes) (fine (text_plan bytes)) (refused (unformed f) place) tt (one (unformed f) place h)

  number_told : (s : Slot) (place : Place) (n : ℕ) → IsIn files place → AreTold files (number_shape s place n).faults
  number_told (slot.Term run) place n h = one 6025 place h
  number_told slot.Effect place n h = one 6022 place h
  number_told s place n h = either (takes_expression s) (fine (an_integer (wrapped W64 n))) (refused (unfit s) place) tt (one (unfit s) place h)

  macro_told : (m : TextMacro) (place : Place) (bytes : List ℕ) → IsIn files place → AreTold files (macro_text m place bytes).faults
  macro_told TextMacro.EisaId place bytes h = by (eisaid_of bytes)
    where
      by : (o : Option ℕ) → AreTold files (eisa_shape place o).faults
      by None = one 6026 place h
      by (Some n) = tt
  macro_told TextMacro.ToUuid place bytes h = by (uuid_of bytes)
    where
      by : (o : Option (List ℕ)) → AreTold files (uuid_shape place o).faults
      by None = one 6027 place h
      by (Some uuid) = tt
  macro_told TextMacro.Unicode place bytes h = either (is_all_text bytes) (fine (buffer_plan place (utf16_of bytes) [])) (refused 6024 place) tt (one 6024 place h)

  text_told : (s : Slot) (place : Place) (bytes : List ℕ) → IsIn files place → AreTold files (text_shape s place bytes).faults
  text_told slot.Expression place bytes h = string_told form.Any place bytes h
  text_told slot.Element place bytes h = string_told form.Any place bytes h
  text_told slot.CaseValue place bytes h = string_told form.Any place bytes h
  text_told slot.CaseMember place bytes h = string_told form.Any place bytes h
  text_told (slot.String f) place bytes h = string_told f place bytes h
  text_told (slot.MacroText m) place bytes h = macro_told m place bytes h
  text_told (slot.Term run) place bytes h = one 6025 place h
  text_told s place bytes h = one (unfit s) place h

  listed_told : (s : Slot) (place : Place) (ws : Writtens) → IsIn files place → AreTold files (listed_shape s place ws).faults
  listed_told (slot.Types most) place ws h = either (are_all_types ws) (if nat_le (count ws) most then fine (an_integer (count ws)) else refused 6024 place) (refused 6022 place) (either (nat_le (count ws) most) (fine (an_integer (count ws))) (refused 6024 place) tt (one 6024 place h)) (one 6022 place h)
  listed_told s place ws h = one (unfit s) place h

  valued_told : (least most : ℕ) (place : Place) (r : Result ℕ NoConstant) → IsIn files place → AreTold files (valued least most place r).faults
  valued_told least most place (Ok n) h = either (nat_le least n && nat_le n most) (fine (an_integer n)) (refused 6024 place) tt (one 6024 place h)
  valued_told least most place (Err NoConstant.Fault) h = one 6024 place h
  valued_told least most place (Err NoConstant.Form) h = one 6022 place h

  member_told : (width : Width) (place : Place) (p : Plan) → IsIn files place → AreTold files (case_member width place p).faults
  member_told width place p h = either (is_case_member p) (fine p) (valued 0 18446744073709551615 place (constant_of width p)) tt (valued_told 0 18446744073709551615 place (constant_of width p) h)

  value_told : (width : Width) (place : Place) (p : Plan) → IsIn files place → AreTold files (case_value width place p).faults
  value_told width place p h = by (member_count p)
    where
      by : (o : Option ℕ) → AreTold files (choose o (case_member width place p) (λ n. if is_case_package n then fine p else refused 6024 place)).faults
      by None = member_told width place p h
      by (Some n) = either (is_case_package n) (fine p) (refused 6024 place) tt (one 6024 place h)

  evaluated_told : (width : Width) (s : Slot) (place : Place) (p : Plan) → IsIn files place → AreTold files (evaluated width s place p).faults
  evaluated_told width (slot.Constant least most) place p h = either (is_omitted p) (fine p) (valued least most place (constant_of W64 p)) tt (valued_told least most place (constant_of W64 p) h)
  evaluated_told width slot.Measure place p h = either (is_omitted p) (fine p) (valued 0 18446744073709551615 place (constant_of width p)) tt (valued_told 0 18446744073709551615 place (constant_of width p) h)
  evaluated_told width slot.Element place p h = either (is_member p) (fine p) (valued 0 18446744073709551615 place (constant_of width p)) tt (valued_told 0 18446744073709551615 place (constant_of width p) h)
  evaluated_told width slot.CaseValue place p h = value_told width place p h
  evaluated_told width slot.CaseMember place p h = member_told width place p h
  evaluated_told width slot.FieldElement place p h = either (is_element p) (fine p) (refused 6022 place) tt (one 6022 place h)
  evaluated_told width _ place p h = tt

  after_told : (faults : List Message) (old new : Shaped Plan) → AreTold files old.faults → AreTold files new.faults → AreTold files (after faults old new).faults
  after_told [] old new h k = k
  after_told (m ∷ ms) old new h k = h

  checked_told : (width : Width) (s : Slot) (place : Place) (shape : Shaped Plan) → IsIn files place → AreTold files shape.faults → AreTold files (checked width s place shape).faults
  checked_told width s place shape h k = after_told shape.faults shape (evaluated width s place shape.made) k (evaluated_told width s place shape.made h)

  path_told : (place : Place) (path : Option Path) → IsIn files place → AreTold files (path_shape place path).faults
  path_told place None h = one 6024 place h
  path_told place (Some path) h = tt

  call_told : (place : Place) (path : Option Path) (args : Shaped Plans) → IsIn files place → AreTold files args.faults → AreTold files (call_shape place path args).faults
  call_told place None args h k = one 6024 place h
  call_told place (Some path) args h k = k

  read_told : (s : Slot) (place : Place) (text : List ℕ) (reading : Reading) (args : Shaped Plans) (element : FieldWord → Shaped Plan) (expanded : TextMacro → Shaped Plan) (template : Shaped Plan) (described : Descriptor → Shaped Plan) (form : Op → Shaped Plan) → IsIn files place → AreTold files args.faults → ((e : FieldWord) → AreTold files (element e).faults)
      → ((m : TextMacro) → AreTold files (expanded m).faults) → AreTold files template.faults → ((d : Descriptor) → AreTold files (described d).faults) → ((o : Op) → AreTold files (form o).faults) → AreTold files (read_shape s place text reading args element expanded template described form).faults
  read_told s place text read.Wrong args element expanded template described form h k l m t d go = one (unfit s) place h
  read_told s place text read.Path args element expanded template described form h k l m t d go = path_told place (path_of text) h
  read_told s place text read.Call args element expanded template described form h k l m t d go = call_told place (path_of text) args h k
  read_told s place text (read.Element e) args element expanded template described form h k l m t d go = l e
  read_told s place text (read.Macro which) args element expanded template described form h k l m t d go = m which
  read_told s place text read.Template args element expanded template described form h k l m t d go = t
  read_told s place text (read.Descriptor of) args element expanded template described form h k l m t d go = d of
  read_told s place text (read.Known known) args element expanded template described form h k l m t d go = tt
  read_told s place text (read.Form o) args element expanded template described form h k l m t d go = go o

  count_told : (place : Place) (i : ℕ) (ps : Plans) → IsIn files place → AreTold files (count_faults place i ps)
  count_told place i ps h = by (holes_in (plan_at ps i))
    where
      told : (b : Bool) → AreTold files (counted place b)
      told true = tt
      told false = one 6030 place h

      by : (o : Option ℕ) → AreTold files (choose o [] (λ holes. counted place (nat_eq (how_many ps) (suc i + holes))))
      by None = tt
      by (Some holes) = told (nat_eq (how_many ps) (suc i + holes))

  format_told : (o : Op) (place : Place) (ps : Plans) → IsIn files place → AreTold files (format_faults o place ps)
  format_told (Op.Control Control.Printf) place ps h = count_told place 0 ps h
  format_told (Op.Control Control.Fprintf) place ps h = count_told place 1 ps h
  format_told _ place ps h = tt

  form_told : (width : Width) (o : Op) (place : Place) (args body : Shaped Plans) → IsIn files place → AreTold files args.faults → AreTold files body.faults → AreTold files (form_shape width o place args body).faults
  form_told width o place args body h k l =
      both (args.faults ++ format_faults o place args.made) body.faults (both args.faults (format_faults o place args.made) k (format_told o place args.made h)) l

  symbol_told : (width : Width) (s : Slot) (place : Place) (o : Op) (args : Shaped Plans) → IsIn files place → AreTold files args.faults → AreTold files (symbol_shape width s place o args).faults
  symbol_told width s place o args h k = either (takes_role s (role_of o)) (form_shape width o place args (fine no_plans)) (refused (unfit s) place) (form_told width o place args (fine no_plans) h k tt) (one (unfit s) place h)

  room_told : (room : Bool) (place : Place) → IsIn files place → AreTold files (room_faults room place)
  room_told true place h = tt
  room_told false place h = one 6024 place h

  item_told : (place : Place) (fault : Option ℕ) (shape : Shaped Plan) → IsIn files place → AreTold files shape.faults → AreTold files (item_shape place fault shape).faults
  item_told place (Some n) shape h k = one n place h
  item_told place None shape h k = k

  place_in : (place : Place) (w : Written) → IsIn files place → IsWithin files w → IsIn files (place_of place w)
  place_in place (piece.number p n) h k = k
  place_in place (piece.text p t) h k = k
  place_in place (item p w args body) h k = k.0
  place_in place (apply p o args) h k = k.0
  place_in place (listed p ws) h k = k.0
  place_in place comma h k = h
  place_in place semicolon h k = h
  place_in place empty h k = h

  skipped_told : (c : Bool) (place : Place) (first : Shaped Plan) (rest : Shaped Plans) → AreTold files first.faults → AreTold files rest.faults → AreTold files (skipped c place first rest).faults
  skipped_told true place first rest h k = k
  skipped_told false place first rest h k = both first.faults rest.faults h k

  list_told : (place : Place) (c : Bool) (all : Shaped Plans) → IsIn files place → AreTold files all.faults → AreTold files (list_shape place c all).faults
  list_told place true all h k = k
  list_told place false all h k = one 6022 place h

  -- ---- the list of a field

  abbrev UnitIn : Option UnitName → Type 0
  UnitIn None = Unit {0}
  UnitIn (Some unit) = IsIn files unit.place

  named_in : (place : Place) (p : Plan) → IsIn files place → UnitIn (named_unit place p)
  named_in place (a_name path) h = by (single_segment path)
    where
      by : (o : Option NameSeg) → UnitIn (choose o None (λ segment. Some (record { place = place; segment = segment })))
      by None = tt
      by (Some segment) = h
  named_in place _ h = tt

  begun_in : (whole : Bool) (place : Place) (p : Plan) → IsIn files place → UnitIn (begun whole place p)
  begun_in true place p h = tt
  begun_in false place p h = named_in place p h

  unit_in : (due : Due) (unit : Option UnitName) (place : Place) (whole separator : Bool) (p : Plan) → UnitIn unit → IsIn files place → UnitIn (unit_behind due unit place whole separator p)
  unit_in Due.Element unit place whole true p u h = tt
  unit_in Due.Element unit place whole false p u h = begun_in whole place p h
  unit_in Due.NameComma unit place whole separator p u h = u
  unit_in Due.Bits unit place whole separator p u h = tt
  unit_in Due.Comma unit place whole separator p u h = tt

  -- where an element stands
  first_in : (place : Place) (ws : Writtens) → IsIn files place → AreWithin files ws → IsIn files (first_place place ws)
  first_in place none h k = h
  first_in place (more w ws) h k = place_in place w h k.0

  inner_in : (place : Place) (w : Written) → IsIn files place → IsWithin files w → IsIn files (inner_place place w)
  inner_in place (item p w absent body) h k = h
  inner_in place (item p w (given ws) body) h k = first_in place ws h k.1
  inner_in place (piece.number p n) h k = h
  inner_in place (piece.text p t) h k = h
  inner_in place (apply p o args) h k = h
  inner_in place (listed p ws) h k = h
  inner_in place comma h k = h
  inner_in place semicolon h k = h
  inner_in place empty h k = h

  element_in : (w : Written) → IsIn files nowhere → IsWithin files w → IsIn files (element_place w)
  element_in w h k = by (is_connection (meaning_in w))
    where
      by : (b : Bool) → IsIn files (if b then inner_place (place_of nowhere w) w else place_of nowhere w)
      by true = inner_in (place_of nowhere w) w (place_in nowhere w h k) k
      by false = place_in nowhere w h k

  comma_told : (unit : Option UnitName) → UnitIn unit → AreTold files (no_comma unit)
  comma_told None u = tt
  comma_told (Some unit) u = one 6022 unit.place u

  part_told : (due : Due) (unit : Option UnitName) (place : Place) (whole separator : Bool) (shape : Shaped Plan) → UnitIn unit → AreTold files shape.faults → AreTold files (field_part due unit place whole separator shape).faults
  part_told Due.Element unit place whole true shape u h = tt
  part_told Due.Element unit place whole false shape u h = h
  part_told Due.NameComma unit place whole true shape u h = tt
  part_told Due.NameComma unit place whole false shape u h = comma_told unit u
  part_told Due.Bits unit place whole separator shape u h = h
  part_told Due.Comma unit place whole separator shape u h = tt

  module _ (main : 0 < files) where
    mutual
      bare_told : (s : Slot) (inside : Around) (w : Written) → IsWithin files w → AreTold files (bare s inside w).faults
      bare_told s inside (piece.number place n) h = number_told s place n h
      bare_told s inside (piece.text place bytes) h = text_told s place bytes h
      bare_told s inside (listed place ws) h = listed_told s place ws h.0
      bare_told s inside (apply place o ws) h =
          let args : Shaped Plans = arguments_in (parameters_of (symbol_of o)) place inside ws in
          symbol_told inside.width s place (symbol_of o) args h.0 (arguments_in_told (parameters_of (symbol_of o)) place inside ws h.0 h.1)
      bare_told s inside (item place w args body) h =
          let meaning = meaning_of w (is_given body) in
          let form : Op → Shaped Plan = λ o. form_shape inside.width o place (arguments (parameters_as o s) place inside args) (contents (body_as o s) (within o inside) place body) in
          let element : FieldWord → Shaped Plan = λ e. element_shape e (arguments (element_parameters e) place inside args) in
          let expanded : TextMacro → Shaped Plan = λ m. macro_shape (arguments (macro_parameters m) place inside args) in
          let template : Shaped Plan = template_shape place (contents (braces.Descriptors false) inside place body) in
          let described : Descriptor → Shaped Plan = λ d. descriptor_shape d place (is_number_list (descriptor_body d) body) (arguments (descriptor_parameters d) place inside args) (contents (descriptor_body d) inside place body) in
          item_told place (item_fault s inside.method meaning (has_arguments meaning (inside_of args)) (is_given body)) (read_shape s place w (reading_of s meaning (is_given args)) (call_args inside args) element expanded template described form) h.0
          (read_told s place w (reading_of s meaning (is_given args)) (call_args inside args) element expanded template described form h.0 (call_told_in inside args h.1) (λ e. arguments_told (element_parameters e) place inside args h.0 h.1)
          (λ m. arguments_told (macro_parameters m) place inside args h.0 h.1)
          (contents_told (braces.Descriptors false) inside place body h.0 h.2)
          (λ d.
          let first : Shaped Plans = arguments (descriptor_parameters d) place inside args in
          let rest : Shaped Plans = contents (descriptor_body d) inside place body in
          let room = not (is_number_list (descriptor_body d) body) || is_roomy d first.made rest.made in
          both (first.faults ++ rest.faults) (room_faults room place) (both first.faults rest.faults (arguments_told (descriptor_parameters d) place inside args h.0 h.1) (contents_told (descriptor_body d) inside place body h.0 h.2)) (room_told room place h.0))
          (λ o. form_told inside.width o place (arguments (parameters_as o s) place inside args) (contents (body_as o s) (within o inside) place body) h.0 (arguments_told (parameters_as o s) place inside args h.0 h.1) (contents_told (body_as o s) (within o inside) place body h.0 h.2)))
      bare_told s inside comma h = tt
      bare_told s inside semicolon h = tt
      bare_told s inside empty h = tt

      operands_told : (s : Slot) (inside : Around) (ws : Writtens) → AreWithin files ws → AreTold files (operands s inside ws).faults
      operands_told s inside none h = tt
      operands_told s inside (more w ws) h =
          both (checked inside.width s (place_of nowhere w) (bare s inside w)).faults (operands slot.Expression inside ws).faults (checked_told inside.width s (place_of nowhere w) (bare s inside w) (place_in nowhere w main h.0) (bare_told s inside w h.0)) (operands_told slot.Expression inside ws h.1)

      call_told_in : (inside : Around) (args : WrittenGroup) → IsGroupWithin files args → AreTold files (call_args inside args).faults
      call_told_in inside absent h = tt
      call_told_in inside (given ws) h = operands_told slot.Expression inside ws h

      arguments_told : (qs : List Parameter) (place : Place) (inside : Around) (args : WrittenGroup) → IsIn files place → IsGroupWithin files args → AreTold files (arguments qs place inside args).faults
      arguments_told qs place inside absent p h = tt
      arguments_told qs place inside (given ws) p h = arguments_in_told qs place inside ws p h

      arguments_in_told : (qs : List Parameter) (place : Place) (inside : Around) (ws : Writtens) → IsIn files place → AreWithin files ws → AreTold files (arguments_in qs place inside ws).faults
      arguments_in_told qs place inside none p h = tt
      arguments_in_told [] place inside (more w ws) p h = tt
      arguments_in_told (q ∷ qs) place inside (more w ws) p h =
          let s : Slot = slot_as q.slot (meaning_in w) in
          both (checked inside.width s (place_of nowhere w) (bare s inside w)).faults (arguments_in qs place inside ws).faults (checked_told inside.width s (place_of nowhere w) (bare s inside w) (place_in nowhere w main h.0) (bare_told s inside w h.0)) (arguments_in_told qs place inside ws p h.1)

      contents_told : (b : Body) (inside : Around) (place : Place) (body : WrittenGroup) → IsIn files place → IsGroupWithin files body → AreTold files (contents b inside place body).faults
      contents_told b inside place absent p h = tt
      contents_told braces.No inside place (given ws) p h = tt
      contents_told braces.Terms inside place (given ws) p h = terms_told inside None ws h
      contents_told braces.Bytes inside place (given ws) p h = list_told place (is_listed true ws) (members (byte_slot ws) inside ws) p (members_told (byte_slot ws) inside ws h)
      contents_told braces.Elements inside place (given ws) p h = list_told place (is_listed true ws) (members slot.Element inside ws) p (members_told slot.Element inside ws h)
      contents_told braces.FieldList inside place (given ws) p h = list_told place (is_field_list begin ws) (elements begin None inside ws) p (elements_told begin None inside ws tt h)
      contents_told (braces.Numbers most) inside place (given ws) p h = list_told place (is_listed true ws) (members (slot.Constant 0 most) inside ws) p (members_told (slot.Constant 0 most) inside ws h)
      contents_told (braces.Descriptors chosen) inside place (given ws) p h = members_told (slot.Descriptor chosen) inside ws h
      contents_told braces.Cases inside place (given ws) p h = cases_told inside false ws h
      contents_told braces.CaseMembers inside place (given ws) p h = list_told place (is_listed true ws) (members slot.CaseMember inside ws) p (members_told slot.CaseMember inside ws h)

      elements_told : (due : Due) (unit : Option UnitName) (inside : Around) (ws : Writtens) → UnitIn unit → AreWithin files ws → AreTold files (elements due unit inside ws).faults
      elements_told due unit inside none u h = tt
      elements_told due unit inside (more w ws) u h =
          let m : Meaning = meaning_in w in
          let s : Slot = field_slot due m in
          let shape : Shaped Plan = checked inside.width s (place_of nowhere w) (bare s inside w) in
          let part : Shaped Plans = field_part due unit (element_place w) (is_whole m) (is_separator w) shape in
          let next : Option UnitName = unit_behind due unit (element_place w) (is_whole m) (is_separator w) shape.made in
          both part.faults (elements (due_behind due w) next inside ws).faults
          (part_told due unit (element_place w) (is_whole m) (is_separator w) shape u (checked_told inside.width s (place_of nowhere w) (bare s inside w) (place_in nowhere w main h.0) (bare_told s inside w h.0)))
          (elements_told (due_behind due w) next inside ws (unit_in due unit (element_place w) (is_whole m) (is_separator w) shape.made u (element_in w main h.0)) h.1)

      members_told : (s : Slot) (inside : Around) (ws : Writtens) → AreWithin files ws → AreTold files (members s inside ws).faults
      members_told s inside none h = tt
      members_told s inside (more w ws) h =
          skipped_told (is_separator w) (place_of nowhere w) (checked inside.width s (place_of nowhere w) (bare s inside w)) (members s inside ws) (checked_told inside.width s (place_of nowhere w) (bare s inside w) (place_in nowhere w main h.0) (bare_told s inside w h.0)) (members_told s inside ws h.1)

      terms_told : (inside : Around) (run : Option ℕ) (ws : Writtens) → AreWithin files ws → AreTold files (terms inside run ws).faults
      terms_told inside run none h = tt
      terms_told inside run (more w ws) h =
          skipped_told (is_separator w) (place_of nowhere w) (checked inside.width (slot.Term run) (place_of nowhere w) (bare (slot.Term run) inside w)) (terms inside (run_after run w) ws)
          (checked_told inside.width (slot.Term run) (place_of nowhere w) (bare (slot.Term run) inside w) (place_in nowhere w main h.0) (bare_told (slot.Term run) inside w h.0)) (terms_told inside (run_after run w) ws h.1)

      cases_told : (inside : Around) (defaulted : Bool) (ws : Writtens) → AreWithin files ws → AreTold files (cases inside defaulted ws).faults
      cases_told inside defaulted none h = tt
      cases_told inside defaulted (more w ws) h =
          skipped_told (is_separator w) (place_of nowhere w) (checked inside.width (slot.Branch defaulted) (place_of nowhere w) (bare (slot.Branch defaulted) inside w)) (cases inside (default_after defaulted w) ws)
          (checked_told inside.width (slot.Branch defaulted) (place_of nowhere w) (bare (slot.Branch defaulted) inside w) (place_in nowhere w main h.0) (bare_told (slot.Branch defaulted) inside w h.0)) (cases_told inside (default_after defaulted w) ws h.1)

    inside_told : (fault : Option ℕ) (place : Place) (inside : List Message) → IsIn files place → AreTold files inside → AreTold files (errors_inside fault place inside)
    inside_told (Some n) place inside h k = one n place h
    inside_told None place inside h k = k

    if_told : (c : Bool) (xs ys : List Message) → AreTold files xs → AreTold files ys → AreTold files (if c then xs else ys)
    if_told true xs ys h k = h
    if_told false xs ys h k = k

    terms_in_told : (around : Around) (body : WrittenGroup) → IsGroupWithin files body → AreTold files (terms around None (inside_of body)).faults
    terms_in_told around absent h = tt
    terms_in_told around (given ws) h = terms_told around None ws h

    before_told : (errors : List Message) (ws : Writtens) → AreTold files errors → AreWithin files ws → AreTold files (errors_before errors ws)
    before_told errors none h k = h
    before_told errors (more w ws) h k = one 6028 (place_of start w) (place_in start w main k.0)

    first_told : (w : Written) (ws : Writtens) → IsWithin files w → AreWithin files ws → AreTold files (first_errors w ws)
    first_told (item place word args body) ws h k =
        let args_shape = block_args place args in
        let args_faults = args_shape.faults in
        let around = outside (width_of (revision_in args_shape.made)) in
        let terms_faults = (terms around None (inside_of body)).faults in
        let fault = block_fault (takes block_parameters (inside_of args)) (is_given body) in
        if_told (is_block_word word) (errors_before (block_errors place args body) ws) (no_block place)
        (before_told (block_errors place args body) ws (inside_told fault place (args_faults ++ terms_faults) h.0 (both args_faults terms_faults (arguments_told block_parameters place (outside W64) args h.0 h.1) (terms_in_told around body h.2))) k)
        (one 6028 place h.0)
    first_told (piece.number p n) ws h k = one 6028 p h
    first_told (piece.text p t) ws h k = one 6028 p h
    first_told (apply p o args) ws h k = one 6028 p h.0
    first_told (listed p is) ws h k = one 6028 p h.0
    first_told comma ws h k = one 6028 start main
    first_told semicolon ws h k = one 6028 start main
    first_told empty ws h k = one 6028 start main

    all_told : (ws : Writtens) → AreWithin files ws → AreTold files (errors_of ws)
    all_told none h = one 6028 start main
    all_told (more w ws) h = first_told w ws h.0 h.1

    pub errors_told : (raws : List Raw) → AreWithin files (writtens raws) → AreTold files (errors_at raws)
    unfolding errors_at
    errors_told raws h = all_told (writtens raws) h

    -- of a source

    alone_told : (r : Raw) → IsWithin files (written r) → AreTold files (errors_at (alone r))
    unfolding writtens
    alone_told r h = errors_told (alone r) (h, tt)

    blocks_told : (raws : List Raw) → AreWithin files (writtens raws) → AreTold files (errors_in_blocks raws)
    unfolding writtens
    blocks_told [] h = tt
    blocks_told (r ∷ rs) h = both (errors_in_block r) (errors_in_blocks rs) (if_told (is_block_at r) (errors_at (alone r)) [] (alone_told r h.0) tt) (blocks_told rs h.1)

    strays_told : (raws : List Raw) → AreWithin files (writtens raws) → AreTold files (stray_errors raws)
    unfolding writtens place_at
    strays_told [] h = tt
    strays_told (r ∷ rs) h = if_told (is_block_at r) (stray_errors rs) (no_block (place_at start r)) (strays_told rs h.1) (one 6028 (place_at start r) (place_in start (written r) main h.0))

    pub source_told : (raws : List Raw) → AreWithin files (writtens raws) → AreTold files (source_errors raws)
    source_told [] h = one 6028 start main
    source_told (r ∷ rs) h = both (errors_in_blocks (r ∷ rs)) (stray_errors (r ∷ rs)) (blocks_told (r ∷ rs) h) (strays_told (r ∷ rs) h)

pub as_all : (files : ℕ) (ms : List Message) → AreTold files ms → All (λ m. m.place.file < files) ms
as_all files [] h = λ k d lt. absurd (omega (arith, lt))
as_all files (m ∷ ms) h = All-cons (λ m. m.place.file < files) m ms h.0 (as_all files ms h.1)

-- the errors of a block, and of a source, whose parts stand in some files stand in these
pub errors_within : (files : ℕ) → 0 < files → (raws : List Raw) → AreWithin files (writtens raws) → All (λ m. m.place.file < files) (errors_at raws)
errors_within files main raws h = as_all files (errors_at raws) (errors_told files main raws h)

pub source_errors_within : (files : ℕ) → 0 < files → (raws : List Raw) → AreWithin files (writtens raws) → All (λ m. m.place.file < files) (source_errors raws)
source_errors_within files main raws h = as_all files (source_errors raws) (source_told files main raws h)
