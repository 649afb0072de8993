-- The plans that a source makes stand in the files in which its parts stand.
use Rattle.std.proofs.Common.{ℕ, zero, suc, ◌+◌, ◌<◌, Bool, true, false, List, [], ◌∷◌, ◌++◌, length, Option, Some, None, Result, Ok, Err, sym, subst, arith}
use Rattle.std.specs.Prelude.{if◌then◌else◌, nat_le, ◌&&◌, ◌%◌, map}
use Rattle.iasl_messages.specs.declared.place.Place.{Place}
use Rattle.iasl_messages.specs.declared.message.Message.{Message}
use Rattle.acpi_values.specs.Integers.{wrapped}
use Rattle.acpi_values.specs.declared.width.Width.TheVariants.{W64}
use Rattle.asl_tree.specs.declared.constant.NoConstant.{NoConstant}
use Rattle.asl_tree.specs.declared.path.Path.{Path}
use Rattle.asl_tree.specs.declared.program.Block.{Block}
use Rattle.asl_tree.specs.declared.term.Op.{Op}
use Rattle.asl_tree.specs.declared.term.Special.TheVariants as Special
use Rattle.asl_tree.specs.declared.term.Declaration.{Declaration}
use Rattle.asl_tree.specs.declared.term.Control.{Control}
use Rattle.asl_syntax.specs.declared.raw.Raw.{Raw}
use Rattle.asl_words.specs.declared.operator.Parameter.{Parameter}
use Rattle.asl_words.specs.declared.operator.Slot.{Slot}
use Rattle.asl_words.specs.declared.operator.Slot.TheVariants as slot
use Rattle.asl_words.specs.declared.operator.Body.{Body}
use Rattle.asl_words.specs.declared.operator.Body.TheVariants as braces
use Rattle.asl_words.specs.declared.operator.StringForm.{StringForm}
use Rattle.asl_words.specs.declared.operator.StringForm.TheVariants as texts
use Rattle.asl_words.specs.declared.operator.Known.{Known}
use Rattle.asl_words.specs.declared.operator.Known.TheVariants as known
use Rattle.asl_words.specs.declared.operator.TextMacro.{TextMacro}
use Rattle.resource_layout.specs.declared.descriptor.Descriptor.{Descriptor}
use Rattle.resource_layout.specs.declared.descriptor.Field.{Field}
use Rattle.resource_layout.specs.Layout.{fields_of}
use Rattle.asl_tree.specs.declared.term.NamedDescriptor.{NamedDescriptor}
use Rattle.term_plans.specs.Plans.{fill_of, named_of}
use Rattle.asl_shape.specs.Descriptors.{own_bytes, is_name, segment_of, named_as, own_name, moved, names_from}
use Rattle.word_meanings.specs.declared.meaning.Reading.{Reading}
use Rattle.word_meanings.specs.declared.meaning.Reading.TheVariants as read
use Rattle.asl_syntax.specs.Written as piece
use Rattle.asl_syntax.specs.Written.{Written, Writtens, WrittenGroup, item, apply, listed, comma, semicolon, empty, none, more, absent, given, writtens}
use Rattle.acpi_state.specs.Outcomes.{choose}
use Rattle.acpi_values.specs.Paths.{NameSeg}
use Rattle.asl_tree.specs.Names.{single_segment}
use Rattle.acpi_values.specs.Revisions.{width_of}
use Rattle.acpi_values.specs.declared.width.Width.{Width}
use Rattle.asl_shape.specs.declared.around.Around.{Around}
use Rattle.asl_shape.specs.Around.{outside}
use Rattle.asl_shape.specs.declared.fields.Due.{Due}
use Rattle.asl_shape.specs.declared.fields.UnitName.{UnitName}
use Rattle.term_plans.specs.Plans.{Plan, an_integer, a_text, a_fill, a_name, an_access, omitted, Plans, no_plans, plan, plan_at, join, first_plans, first_alone, number_of, is_omitted, constant_of, plans_of}
use Rattle.asl_words.specs.Paths.{path_of}
use Rattle.asl_words.specs.declared.operator.FieldWord.{FieldWord}
use Rattle.word_meanings.specs.declared.meaning.Meaning.{Meaning}
use Rattle.asl_words.specs.Operators.{parameters_of, parameters_as, body_as, role_of, element_parameters, macro_parameters}
use Rattle.asl_words.specs.Resources.{descriptor_parameters, descriptor_body}
use Rattle.asl_terms.specs.Symbols.{symbol_of}
use Rattle.asl_terms.specs.Terms.{Shaped, fine, refused, unformed, one_word, for_settled, valued, evaluated, after, checked}
use Rattle.term_plans.specs.Places.{nowhere}
use Rattle.asl_terms.specs.Terms.{is_member, is_given, count, are_all_types, number_shape, string_shape, text_shape, path_shape, known_plan}
use Rattle.asl_terms.specs.Terms.{listed_shape, method_flags, zero_plan, is_stated, stated_parameters}
use Rattle.term_plans.specs.Plans.{one_plan}
use Rattle.asl_shape.specs.Shapes.{has_arguments, call_shape, read_shape, item_shape, form_shape}
use Rattle.asl_terms.specs.Terms.{few_elements, settled, place_of, inside_of, is_element, field_flags, field_settled, macro_text}
use Rattle.asl_terms.specs.Terms.{eisa_shape, uuid_shape, buffer_plan}
use Rattle.asl_shape.specs.Shapes.{within, left_out, is_separator, is_listed, byte_slot, list_shape, skipped, run_after, bare, operands}
use Rattle.asl_shape.specs.Shapes.{call_args, arguments, arguments_in, contents, members, terms, element_shape, macro_shape, template_shape}
use Rattle.asl_shape.specs.Shapes.{descriptor_shape, is_number_list}
use Rattle.asl_terms.specs.Terms.{is_case_member, case_member, member_count, is_case_package, case_value, is_default_plan, default_last}
use Rattle.asl_terms.specs.Terms.{arranged, accessed_as, connected_to, element_plan}
use Rattle.asl_shape.specs.Shapes.{meaning_in, is_field_list, begin, field_slot, named_unit, unit_behind, whole_alone, of_bits, field_part}
use Rattle.asl_shape.specs.Shapes.{due_behind, elements, cases, default_after, element_place, first_place, inner_place, begun}
use Rattle.word_meanings.specs.Meanings.{item_fault, meaning_of, reading_of, takes_expression, takes_role, slot_as, unfit, is_whole, is_connection}
use Rattle.asl_words.specs.Texts.{is_all_text, has_form}
use Rattle.resource_macros.specs.Identifiers.{eisaid_of, uuid_of, utf16_of}
use Rattle.asl_shape.specs.Forms.{terms_of, IsBlockOf, block_args, revision_in}
use Rattle.asl_syntax.specs.Within.{IsIn, IsWithin, AreWithin, IsGroupWithin}
use Rattle.descriptor_shapes.specs.Places.{NamesWithin, PlanWithin, PlansWithin}

module _ (files : ℕ) where
  -- one choice or the other
  either : (c : Bool) (x y : Shaped Plan) → PlanWithin files x.made → PlanWithin files y.made → PlanWithin files (if c then x else y).made
  either true x y h k = h
  either false x y h k = k

  string_in : (f : StringForm) (place : Place) (bytes : List ℕ) → PlanWithin files (string_shape f place bytes).made
  string_in f place bytes = either (has_form f bytes && is_all_text bytes) (fine (a_text bytes)) (refused (unformed f) place) tt tt

  number_in : (s : Slot) (place : Place) (n : ℕ) → PlanWithin files (number_shape s place n).made
  number_in (slot.Term run) place n = tt
  number_in slot.Effect place n = tt
  number_in s place n = either (takes_expression s) (fine (an_integer (wrapped W64 n))) (refused (unfit s) place) tt tt

  -- the Buffer of a macro stands at its string
  macro_in : (m : TextMacro) (place : Place) (bytes : List ℕ) → IsIn files place → PlanWithin files (macro_text m place bytes).made
  macro_in TextMacro.EisaId place bytes h = by (eisaid_of bytes)
    where
      by : (o : Option ℕ) → PlanWithin files (eisa_shape place o).made
      by None = tt
      by (Some n) = tt
  macro_in TextMacro.ToUuid place bytes h = by (uuid_of bytes)
    where
      by : (o : Option (List ℕ)) → PlanWithin files (uuid_shape place o).made
      by None = tt
      by (Some uuid) = ((h, tt, tt), (h, tt, tt))
  macro_in TextMacro.Unicode place bytes h = either (is_all_text bytes) (fine (buffer_plan place (utf16_of bytes) [])) (refused 6024 place) ((h, tt, tt), (h, tt, tt)) tt

  text_in : (s : Slot) (place : Place) (bytes : List ℕ) → IsIn files place → PlanWithin files (text_shape s place bytes).made
  text_in slot.Expression place bytes h = string_in texts.Any place bytes
  text_in slot.Element place bytes h = string_in texts.Any place bytes
  text_in slot.CaseValue place bytes h = string_in texts.Any place bytes
  text_in slot.CaseMember place bytes h = string_in texts.Any place bytes
  text_in (slot.String f) place bytes h = string_in f place bytes
  text_in (slot.MacroText m) place bytes h = macro_in m place bytes h
  text_in _ place bytes h = tt

  listed_in : (s : Slot) (place : Place) (ws : Writtens) → PlanWithin files (listed_shape s place ws).made
  listed_in (slot.Types most) place ws = either (are_all_types ws) (if nat_le (count ws) most then fine (an_integer (count ws)) else refused 6024 place) (refused 6022 place) (either (nat_le (count ws) most) (fine (an_integer (count ws))) (refused 6024 place) tt tt) tt
  listed_in _ place ws = tt

  valued_in : (least most : ℕ) (place : Place) (r : Result ℕ NoConstant) → PlanWithin files (valued least most place r).made
  valued_in least most place (Ok n) = either (nat_le least n && nat_le n most) (fine (an_integer n)) (refused 6024 place) tt tt
  valued_in least most place (Err NoConstant.Fault) = tt
  valued_in least most place (Err NoConstant.Form) = tt

  member_in : (width : Width) (place : Place) (p : Plan) → PlanWithin files p → PlanWithin files (case_member width place p).made
  member_in width place p h = either (is_case_member p) (fine p) (valued 0 18446744073709551615 place (constant_of width p)) h (valued_in 0 18446744073709551615 place (constant_of width p))

  value_in : (width : Width) (place : Place) (p : Plan) → PlanWithin files p → PlanWithin files (case_value width place p).made
  value_in width place p h = by (member_count p)
    where
      by : (o : Option ℕ) → PlanWithin files (choose o (case_member width place p) (λ n. if is_case_package n then fine p else refused 6024 place)).made
      by None = member_in width place p h
      by (Some n) = either (is_case_package n) (fine p) (refused 6024 place) h tt

  evaluated_in : (width : Width) (s : Slot) (place : Place) (p : Plan) → PlanWithin files p → PlanWithin files (evaluated width s place p).made
  evaluated_in width (slot.Constant least most) place p h = either (is_omitted p) (fine p) (valued least most place (constant_of W64 p)) h (valued_in least most place (constant_of W64 p))
  evaluated_in width slot.Measure place p h = either (is_omitted p) (fine p) (valued 0 18446744073709551615 place (constant_of width p)) h (valued_in 0 18446744073709551615 place (constant_of width p))
  evaluated_in width slot.Element place p h = either (is_member p) (fine p) (valued 0 18446744073709551615 place (constant_of width p)) h (valued_in 0 18446744073709551615 place (constant_of width p))
  evaluated_in width slot.CaseValue place p h = value_in width place p h
  evaluated_in width slot.CaseMember place p h = member_in width place p h
  evaluated_in width slot.FieldElement place p h = either (is_element p) (fine p) (refused 6022 place) h tt
  evaluated_in width _ place p h = h

  after_in : (faults : List Message) (old new : Shaped Plan) → PlanWithin files old.made → PlanWithin files new.made → PlanWithin files (after faults old new).made
  after_in [] old new h k = k
  after_in (m ∷ ms) old new h k = h

  checked_in : (width : Width) (s : Slot) (place : Place) (shape : Shaped Plan) → PlanWithin files shape.made → PlanWithin files (checked width s place shape).made
  checked_in width s place shape h = after_in shape.faults shape (evaluated width s place shape.made) h (evaluated_in width s place shape.made h)

  path_in : (place : Place) (path : Option Path) → PlanWithin files (path_shape place path).made
  path_in place None = tt
  path_in place (Some path) = tt

  call_in : (place : Place) (path : Option Path) (args : Shaped Plans) → PlansWithin files args.made → PlanWithin files (call_shape place path args).made
  call_in place None args h = tt
  call_in place (Some path) args h = h

  known_in : (s : Slot) (k : Known) → PlanWithin files (known_plan s k)
  known_in s (known.Word k n) = tt
  known_in s (known.Local i) = tt
  known_in s (known.Arg i) = tt
  known_in s known.Debug = tt
  known_in s (known.Element w) = tt
  known_in s (known.Macro m) = tt
  known_in s known.Template = tt
  known_in s (known.Descriptor d) = tt
  known_in s known.LeftOut = tt

  head_in : (ps : Plans) → PlansWithin files ps → PlanWithin files (plan_at ps 0)
  head_in no_plans h = tt
  head_in (plan place p ps) h = h.1

  connected_in : (p : Plan) → PlanWithin files p → PlanWithin files (connected_to p)
  connected_in (a_fill bytes named) h = h
  connected_in _ h = h

  accessed_in : (access : ℕ) (p : Plan) → PlanWithin files (accessed_as access p)
  accessed_in access (an_access other attribute count) = tt
  accessed_in access _ = tt

  element_in : (x : FieldWord) (ps : Plans) → PlansWithin files ps → PlanWithin files (element_plan x ps)
  element_in FieldWord.Offset ps h = tt
  element_in FieldWord.AccessAs ps h = accessed_in (number_of (plan_at ps 0) % 256) (plan_at ps 1)
  element_in FieldWord.Connection ps h = connected_in (plan_at ps 0) (head_in ps h)
  element_in FieldWord.AttribBytes ps h = tt

  read_in : (s : Slot) (place : Place) (text : List ℕ) (reading : Reading) (args : Shaped Plans) (element : FieldWord → Shaped Plan) (expanded : TextMacro → Shaped Plan) (template : Shaped Plan) (described : Descriptor → Shaped Plan) (form : Op → Shaped Plan) → PlansWithin files args.made
      → ((x : FieldWord) → PlanWithin files (element x).made) → ((m : TextMacro) → PlanWithin files (expanded m).made)
      → PlanWithin files template.made → ((d : Descriptor) → PlanWithin files (described d).made) → ((o : Op) → PlanWithin files (form o).made) → PlanWithin files (read_shape s place text reading args element expanded template described form).made
  read_in s place text read.Wrong args element expanded template described form h k l v w go = tt
  read_in s place text read.Path args element expanded template described form h k l v w go = path_in place (path_of text)
  read_in s place text (read.Element x) args element expanded template described form h k l v w go = k x
  read_in s place text (read.Macro m) args element expanded template described form h k l v w go = l m
  read_in s place text read.Template args element expanded template described form h k l v w go = v
  read_in s place text (read.Descriptor d) args element expanded template described form h k l v w go = w d
  read_in s place text read.Call args element expanded template described form h k l v w go = call_in place (path_of text) args h
  read_in s place text (read.Known known) args element expanded template described form h k l v w go = known_in s known
  read_in s place text (read.Form o) args element expanded template described form h k l v w go = go o

  item_in : (place : Place) (fault : Option ℕ) (shape : Shaped Plan) → PlanWithin files shape.made → PlanWithin files (item_shape place fault shape).made
  item_in place (Some n) shape h = tt
  item_in place None shape h = h

  -- ---- the arguments of a form

  join_in : (ps qs : Plans) → PlansWithin files ps → PlansWithin files qs → PlansWithin files (join ps qs)
  join_in no_plans qs h k = k
  join_in (plan place p ps) qs h k = (h.0, h.1, join_in ps qs h.2 k)

  first_in : (ps : Plans) → PlansWithin files ps → PlansWithin files (first_alone ps)
  first_in no_plans h = tt
  first_in (plan place p ps) h = (h.0, h.1, tt)

  behind_first : (place : Place) (ps : Plans) (n : ℕ) → IsIn files place → PlansWithin files ps → PlansWithin files (join (first_alone ps) (one_plan place (an_integer n)))
  behind_first place ps n h k = join_in (first_alone ps) (one_plan place (an_integer n)) (first_in ps k) (h, tt, tt)

  firsts_in : (n : ℕ) (ps : Plans) → PlansWithin files ps → PlansWithin files (first_plans n ps)
  firsts_in zero ps h = tt
  firsts_in (suc n) no_plans h = tt
  firsts_in (suc n) (plan place p ps) h = (h.0, h.1, firsts_in n ps h.2)

  field_in : (n : ℕ) (place : Place) (ps : Plans) → IsIn files place → PlansWithin files ps → PlansWithin files (field_settled n place ps)
  field_in n place ps h k = join_in (first_plans n ps) (one_plan place (an_integer (field_flags n ps))) (firsts_in n ps k) (h, tt, tt)

  stated_in : (c : Bool) (place : Place) (p : Plan) → IsIn files place → PlansWithin files (if c then one_plan place (an_integer (number_of p)) else no_plans)
  stated_in true place p h = (h, tt, tt)
  stated_in false place p h = tt

  return_in : (c : Bool) (place : Place) (ps : Plans) → IsIn files place → PlansWithin files ps → PlansWithin files (if c then ps else one_plan place zero_plan)
  return_in true place ps h k = k
  return_in false place ps h k = (h, (tt, tt), tt)

  package_in : (o : Option ℕ) (place : Place) (ps : Plans) → IsIn files place → PlansWithin files ps → PlansWithin files (choose o ps (λ n. one_plan place (an_integer n)))
  package_in None place ps h k = k
  package_in (Some n) place ps h k = (h, tt, tt)

  test_in : (c : Bool) (p : Plan) → PlanWithin files p → PlanWithin files (if c then p else one_word)
  test_in true p h = h
  test_in false p h = (tt, tt)

  for_in : (ps : Plans) → PlansWithin files ps → PlansWithin files (for_settled ps)
  for_in no_plans k = k
  for_in (plan place p no_plans) k = k
  for_in (plan place p (plan at q ps)) k = (k.0, k.1, (k.2.0, test_in (is_stated q) q k.2.1, k.2.2))

  settled_in : (width : Width) (o : Op) (place : Place) (ps : Plans) → IsIn files place → PlansWithin files ps → PlansWithin files (settled width o place ps)
  settled_in width (Op.Declaration Declaration.Method) place ps h k = behind_first place ps (method_flags ps) h k
  settled_in width (Op.Declaration Declaration.Mutex) place ps h k = behind_first place ps (number_of (plan_at ps 1) % 16) h k
  settled_in width (Op.Declaration Declaration.External) place ps h k =
      join_in (join (first_alone ps) (one_plan place (an_integer (number_of (plan_at ps 1))))) (stated_parameters place (plan_at ps 3)) (behind_first place ps (number_of (plan_at ps 1)) h k) (stated_in (is_stated (plan_at ps 3)) place (plan_at ps 3) h)
  settled_in width (Op.Declaration Declaration.Field) place ps h k = field_in 1 place ps h k
  settled_in width (Op.Declaration Declaration.IndexField) place ps h k = field_in 2 place ps h k
  settled_in width (Op.Declaration Declaration.BankField) place ps h k = field_in 3 place ps h k
  settled_in width (Op.Control Control.Return) place ps h k = return_in (is_stated (plan_at ps 0)) place ps h k
  settled_in width (Op.Control Control.For) place ps h k = for_in ps k
  settled_in width (Op.Special Special.Package) place ps h k = package_in (few_elements (constant_of width (plan_at ps 0))) place ps h k
  settled_in width _ place ps h k = k

  last_in : (ps : Plans) → PlansWithin files ps → PlansWithin files (default_last ps)
  last_in no_plans h = tt
  last_in (plan place p ps) h = by (is_default_plan p) (last_in ps h.2)
    where
      by : (c : Bool) → PlansWithin files (default_last ps) → PlansWithin files (if c then join ps (one_plan place p) else plan place p (default_last ps))
      by true k = join_in ps (one_plan place p) h.2 (h.0, h.1, tt)
      by false k = (h.0, h.1, k)

  arranged_in : (o : Op) (ps : Plans) → PlansWithin files ps → PlansWithin files (arranged o ps)
  arranged_in (Op.Control Control.Switch) ps h = last_in ps h
  arranged_in _ ps h = h

  left_out_in : (place : Place) (qs : List Parameter) → IsIn files place → PlansWithin files (left_out place qs)
  left_out_in place [] h = tt
  left_out_in place (q ∷ qs) h = by q.further (left_out_in place qs h)
    where
      by : (c : Bool) → PlansWithin files (left_out place qs) → PlansWithin files (join (if c then no_plans else plan place omitted no_plans) (left_out place qs))
      by true k = k
      by false k = (h, tt, k)

  place_in : (place : Place) (w : Written) → IsIn files place → IsWithin files w → IsIn files (place_of place w)
  place_in place (piece.number p n) h k = k
  place_in place (piece.text p t) h k = k
  place_in place (item p w args body) h k = k.0
  place_in place (apply p o args) h k = k.0
  place_in place (listed p ws) h k = k.0
  place_in place comma h k = h
  place_in place semicolon h k = h
  place_in place empty h k = h

  skipped_in : (c : Bool) (place : Place) (first : Shaped Plan) (rest : Shaped Plans) → IsIn files place → PlanWithin files first.made → PlansWithin files rest.made → PlansWithin files (skipped c place first rest).made
  skipped_in true place first rest p h k = k
  skipped_in false place first rest p h k = (p, h, k)

  list_in : (place : Place) (c : Bool) (all : Shaped Plans) → PlansWithin files all.made → PlansWithin files (list_shape place c all).made
  list_in place true all h = h
  list_in place false all h = tt

  -- ---- the names of descriptors

  both_in : (ns ms : List NamedDescriptor) → NamesWithin files ns → NamesWithin files ms → NamesWithin files (ns ++ ms)
  both_in [] ms h k = k
  both_in (n ∷ ns) ms h k = (h.0, both_in ns ms h.1 k)

  moved_in : (n : ℕ) (ns : List NamedDescriptor) → NamesWithin files ns → NamesWithin files (map (moved n) ns)
  moved_in n [] h = tt
  moved_in n (named ∷ ns) h = (h.0, moved_in n ns h.1)

  named_of_in : (p : Plan) → PlanWithin files p → NamesWithin files (named_of p)
  named_of_in (a_fill bytes named) h = h
  named_of_in _ h = tt

  names_from_in : (n : ℕ) (ps : Plans) → PlansWithin files ps → NamesWithin files (names_from n ps)
  names_from_in n no_plans h = tt
  names_from_in n (plan place p ps) h = both_in (map (moved n) (named_of p)) (names_from (n + length (fill_of p)) ps) (moved_in n (named_of p) (named_of_in p h.1)) (names_from_in (n + length (fill_of p)) ps h.2)

  own_name_in : (d : Descriptor) (fields : List Field) (ps : Plans) → PlansWithin files ps → NamesWithin files (own_name d fields ps)
  own_name_in d [] ps h = tt
  own_name_in d (field ∷ fields) no_plans h = tt
  own_name_in d (field ∷ fields) (plan place p ps) h = by_giver (is_name field.giver) (own_name_in d fields ps h.2)
    where
      by_segment : (o : Option NameSeg) → NamesWithin files (named_as d place o)
      by_segment None = tt
      by_segment (Some segment) = (h.0, tt)

      by_giver : (b : Bool) → NamesWithin files (own_name d fields ps) → NamesWithin files (if b then named_as d place (segment_of p) else own_name d fields ps)
      by_giver true k = by_segment (segment_of p)
      by_giver false k = k

  -- ---- the list of a field

  abbrev UnitIn : Option UnitName → Type 0
  UnitIn None = Unit {0}
  UnitIn (Some unit) = IsIn files unit.place

  named_in : (place : Place) (p : Plan) → IsIn files place → UnitIn (named_unit place p)
  named_in place (a_name path) h = by (single_segment path)
    where
      by : (o : Option NameSeg) → UnitIn (choose o None (λ segment. Some (record { place = place; segment = segment })))
      by None = tt
      by (Some segment) = h
  named_in place _ h = tt

  begun_in : (whole : Bool) (place : Place) (p : Plan) → IsIn files place → UnitIn (begun whole place p)
  begun_in true place p h = tt
  begun_in false place p h = named_in place p h

  unit_in : (due : Due) (unit : Option UnitName) (place : Place) (whole separator : Bool) (p : Plan) → UnitIn unit → IsIn files place → UnitIn (unit_behind due unit place whole separator p)
  unit_in Due.Element unit place whole true p u h = tt
  unit_in Due.Element unit place whole false p u h = begun_in whole place p h
  unit_in Due.NameComma unit place whole separator p u h = u
  unit_in Due.Bits unit place whole separator p u h = tt
  unit_in Due.Comma unit place whole separator p u h = tt

  alone_in : (whole : Bool) (place : Place) (p : Plan) → IsIn files place → PlanWithin files p → PlansWithin files (whole_alone whole place p)
  alone_in true place p h k = (h, k, tt)
  alone_in false place p h k = tt

  -- where an element stands
  first_place_in : (place : Place) (ws : Writtens) → IsIn files place → AreWithin files ws → IsIn files (first_place place ws)
  first_place_in place none h k = h
  first_place_in place (more w ws) h k = place_in place w h k.0

  inner_place_in : (place : Place) (w : Written) → IsIn files place → IsWithin files w → IsIn files (inner_place place w)
  inner_place_in place (item p w absent body) h k = h
  inner_place_in place (item p w (given ws) body) h k = first_place_in place ws h k.1
  inner_place_in place (piece.number p n) h k = h
  inner_place_in place (piece.text p t) h k = h
  inner_place_in place (apply p o args) h k = h
  inner_place_in place (listed p ws) h k = h
  inner_place_in place comma h k = h
  inner_place_in place semicolon h k = h
  inner_place_in place empty h k = h

  element_place_in : (w : Written) → IsIn files nowhere → IsWithin files w → IsIn files (element_place w)
  element_place_in w h k = by (is_connection (meaning_in w))
    where
      by : (b : Bool) → IsIn files (if b then inner_place (place_of nowhere w) w else place_of nowhere w)
      by true = inner_place_in (place_of nowhere w) w (place_in nowhere w h k) k
      by false = place_in nowhere w h k

  bits_in : (unit : Option UnitName) (place : Place) (n : ℕ) → UnitIn unit → IsIn files place → PlansWithin files (of_bits unit place n)
  bits_in None place n u h = (h, tt, tt)
  bits_in (Some unit) place n u h = (u, tt, tt)

  part_in : (due : Due) (unit : Option UnitName) (place : Place) (whole separator : Bool) (shape : Shaped Plan) → UnitIn unit → IsIn files place → PlanWithin files shape.made → PlansWithin files (field_part due unit place whole separator shape).made
  part_in Due.Element unit place whole true shape u h k = tt
  part_in Due.Element unit place whole false shape u h k = alone_in whole place shape.made h k
  part_in Due.NameComma unit place whole true shape u h k = tt
  part_in Due.NameComma unit place whole false shape u h k = tt
  part_in Due.Bits unit place whole separator shape u h k = bits_in unit place (number_of shape.made) u h
  part_in Due.Comma unit place whole separator shape u h k = tt

  -- ---- the tree

  module _ (main : 0 < files) where
    mutual
      bare_in : (s : Slot) (inside : Around) (w : Written) → IsWithin files w → PlanWithin files (bare s inside w).made
      bare_in s inside (piece.number place n) h = number_in s place n
      bare_in s inside (piece.text place bytes) h = text_in s place bytes h
      bare_in s inside (listed place ws) h = listed_in s place ws
      bare_in s inside (apply place o ws) h =
          let args : Shaped Plans = arguments_in (parameters_of (symbol_of o)) place inside ws in
          either (takes_role s (role_of (symbol_of o))) (form_shape inside.width (symbol_of o) place args (fine no_plans)) (refused (unfit s) place)
          (settled_in inside.width (symbol_of o) place args.made h.0 (arguments_in_within (parameters_of (symbol_of o)) place inside ws h.0 h.1), arranged_in (symbol_of o) no_plans tt) tt
      bare_in s inside (item place w args body) h =
          let meaning = meaning_of w (is_given body) in
          let form : Op → Shaped Plan = λ o. form_shape inside.width o place (arguments (parameters_as o s) place inside args) (contents (body_as o s) (within o inside) place body) in
          let element : FieldWord → Shaped Plan = λ e. element_shape e (arguments (element_parameters e) place inside args) in
          let expanded : TextMacro → Shaped Plan = λ m. macro_shape (arguments (macro_parameters m) place inside args) in
          let template : Shaped Plan = template_shape place (contents (braces.Descriptors false) inside place body) in
          let described : Descriptor → Shaped Plan = λ d. descriptor_shape d place (is_number_list (descriptor_body d) body) (arguments (descriptor_parameters d) place inside args) (contents (descriptor_body d) inside place body) in
          item_in place (item_fault s inside.method meaning (has_arguments meaning (inside_of args)) (is_given body)) (read_shape s place w (reading_of s meaning (is_given args)) (call_args inside args) element expanded template described form)
          (read_in s place w (reading_of s meaning (is_given args)) (call_args inside args) element expanded template described form (call_args_in inside args h.1)
          (λ x. element_in x (arguments (element_parameters x) place inside args).made (arguments_within (element_parameters x) place inside args h.0 h.1))
          (λ m. head_in (arguments (macro_parameters m) place inside args).made (arguments_within (macro_parameters m) place inside args h.0 h.1))
          ((h.0, tt, tt), (h.0, names_from_in 0 (contents (braces.Descriptors false) inside place body).made (contents_in (braces.Descriptors false) inside place body h.2), tt))
          (λ d. both_in (own_name d (fields_of d) (arguments (descriptor_parameters d) place inside args).made) (names_from (length (own_bytes d (arguments (descriptor_parameters d) place inside args).made (contents (descriptor_body d) inside place body).made)) (contents (descriptor_body d) inside place body).made)
          (own_name_in d (fields_of d) (arguments (descriptor_parameters d) place inside args).made (arguments_within (descriptor_parameters d) place inside args h.0 h.1))
          (names_from_in (length (own_bytes d (arguments (descriptor_parameters d) place inside args).made (contents (descriptor_body d) inside place body).made)) (contents (descriptor_body d) inside place body).made (contents_in (descriptor_body d) inside place body h.2)))
          (λ o. (
            settled_in inside.width o place (arguments (parameters_as o s) place inside args).made h.0 (arguments_within (parameters_as o s) place inside args h.0 h.1),
            arranged_in o (contents (body_as o s) (within o inside) place body).made (contents_in (body_as o s) (within o inside) place body h.2),
          )))
      bare_in s inside comma h = tt
      bare_in s inside semicolon h = tt
      bare_in s inside empty h = tt

      operands_in : (s : Slot) (inside : Around) (ws : Writtens) → AreWithin files ws → PlansWithin files (operands s inside ws).made
      operands_in s inside none h = tt
      operands_in s inside (more w ws) h = (place_in nowhere w main h.0, checked_in inside.width s (place_of nowhere w) (bare s inside w) (bare_in s inside w h.0), operands_in slot.Expression inside ws h.1)

      call_args_in : (inside : Around) (args : WrittenGroup) → IsGroupWithin files args → PlansWithin files (call_args inside args).made
      call_args_in inside absent h = tt
      call_args_in inside (given ws) h = operands_in slot.Expression inside ws h

      arguments_within : (qs : List Parameter) (place : Place) (inside : Around) (args : WrittenGroup) → IsIn files place → IsGroupWithin files args → PlansWithin files (arguments qs place inside args).made
      arguments_within qs place inside absent p h = left_out_in place qs p
      arguments_within qs place inside (given ws) p h = arguments_in_within qs place inside ws p h

      arguments_in_within : (qs : List Parameter) (place : Place) (inside : Around) (ws : Writtens) → IsIn files place → AreWithin files ws → PlansWithin files (arguments_in qs place inside ws).made
      arguments_in_within qs place inside none p h = left_out_in place qs p
      arguments_in_within [] place inside (more w ws) p h = tt
      arguments_in_within (q ∷ qs) place inside (more w ws) p h =
          let s : Slot = slot_as q.slot (meaning_in w) in
          (place_in place w p h.0, checked_in inside.width s (place_of nowhere w) (bare s inside w) (bare_in s inside w h.0), arguments_in_within qs place inside ws p h.1)

      contents_in : (b : Body) (inside : Around) (place : Place) (body : WrittenGroup) → IsGroupWithin files body → PlansWithin files (contents b inside place body).made
      contents_in b inside place absent h = tt
      contents_in braces.No inside place (given ws) h = tt
      contents_in braces.Terms inside place (given ws) h = terms_in inside None ws h
      contents_in braces.Bytes inside place (given ws) h = list_in place (is_listed true ws) (members (byte_slot ws) inside ws) (members_in (byte_slot ws) inside ws h)
      contents_in braces.Elements inside place (given ws) h = list_in place (is_listed true ws) (members slot.Element inside ws) (members_in slot.Element inside ws h)
      contents_in braces.FieldList inside place (given ws) h = list_in place (is_field_list begin ws) (elements begin None inside ws) (elements_in begin None inside ws tt h)
      contents_in (braces.Numbers most) inside place (given ws) h = list_in place (is_listed true ws) (members (slot.Constant 0 most) inside ws) (members_in (slot.Constant 0 most) inside ws h)
      contents_in (braces.Descriptors chosen) inside place (given ws) h = members_in (slot.Descriptor chosen) inside ws h
      contents_in braces.Cases inside place (given ws) h = cases_in inside false ws h
      contents_in braces.CaseMembers inside place (given ws) h = list_in place (is_listed true ws) (members slot.CaseMember inside ws) (members_in slot.CaseMember inside ws h)

      elements_in : (due : Due) (unit : Option UnitName) (inside : Around) (ws : Writtens) → UnitIn unit → AreWithin files ws → PlansWithin files (elements due unit inside ws).made
      elements_in due unit inside none u h = tt
      elements_in due unit inside (more w ws) u h =
          let m : Meaning = meaning_in w in
          let s : Slot = field_slot due m in
          let place : Place = element_place w in
          let shape : Shaped Plan = checked inside.width s (place_of nowhere w) (bare s inside w) in
          let next : Option UnitName = unit_behind due unit place (is_whole m) (is_separator w) shape.made in
          let at : IsIn files place = element_place_in w main h.0 in
          join_in (field_part due unit place (is_whole m) (is_separator w) shape).made (elements (due_behind due w) next inside ws).made
          (part_in due unit place (is_whole m) (is_separator w) shape u at (checked_in inside.width s (place_of nowhere w) (bare s inside w) (bare_in s inside w h.0)))
          (elements_in (due_behind due w) next inside ws (unit_in due unit place (is_whole m) (is_separator w) shape.made u at) h.1)

      members_in : (s : Slot) (inside : Around) (ws : Writtens) → AreWithin files ws → PlansWithin files (members s inside ws).made
      members_in s inside none h = tt
      members_in s inside (more w ws) h =
          skipped_in (is_separator w) (place_of nowhere w) (checked inside.width s (place_of nowhere w) (bare s inside w)) (members s inside ws) (place_in nowhere w main h.0)
          (checked_in inside.width s (place_of nowhere w) (bare s inside w) (bare_in s inside w h.0)) (members_in s inside ws h.1)

      terms_in : (inside : Around) (run : Option ℕ) (ws : Writtens) → AreWithin files ws → PlansWithin files (terms inside run ws).made
      terms_in inside run none h = tt
      terms_in inside run (more w ws) h =
          skipped_in (is_separator w) (place_of nowhere w) (checked inside.width (slot.Term run) (place_of nowhere w) (bare (slot.Term run) inside w)) (terms inside (run_after run w) ws) (place_in nowhere w main h.0)
          (checked_in inside.width (slot.Term run) (place_of nowhere w) (bare (slot.Term run) inside w) (bare_in (slot.Term run) inside w h.0)) (terms_in inside (run_after run w) ws h.1)

      cases_in : (inside : Around) (defaulted : Bool) (ws : Writtens) → AreWithin files ws → PlansWithin files (cases inside defaulted ws).made
      cases_in inside defaulted none h = tt
      cases_in inside defaulted (more w ws) h =
          skipped_in (is_separator w) (place_of nowhere w) (checked inside.width (slot.Branch defaulted) (place_of nowhere w) (bare (slot.Branch defaulted) inside w)) (cases inside (default_after defaulted w) ws) (place_in nowhere w main h.0)
          (checked_in inside.width (slot.Branch defaulted) (place_of nowhere w) (bare (slot.Branch defaulted) inside w) (bare_in (slot.Branch defaulted) inside w h.0)) (cases_in inside (default_after defaulted w) ws h.1)

    body_in : (around : Around) (body : WrittenGroup) → IsGroupWithin files body → PlansWithin files (terms around None (inside_of body)).made
    body_in around absent h = tt
    body_in around (given ws) h = terms_in around None ws h

-- the terms that a source makes, with errors or without, stand in the files in which its parts stand
pub terms_within : (files : ℕ) (ws : Writtens) → AreWithin files ws → PlansWithin files (terms_of ws)
terms_within files none h = tt
terms_within files (more (item place word args body) none) h = body_in files (omega (arith, h.0.0)) (outside (width_of (revision_in (block_args place args).made))) body h.0.2
terms_within files (more (item place word args body) (more w ws)) h = tt
terms_within files (more _ ws) h = tt

-- and so do the terms of its block
pub block_within : (files : ℕ) (raws : List Raw) (block : Block) → IsBlockOf raws block → AreWithin files (writtens raws) → PlansWithin files (plans_of block.terms.items)
unfolding IsBlockOf
block_within files raws block h k = subst (PlansWithin files) (sym h.terms) (terms_within files (writtens raws) k)
