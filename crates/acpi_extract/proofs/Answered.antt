-- What a call is to end with is its answer by relations, and no other.
use Rattle.std.proofs.Common.{◌≡◌, ◌⊎◌, inl, inr, ℕ, ◌≤◌, Bool, true, false, cond, nat_lt, List, [], ◌∷◌, length, codes, Option, Some, None, Result, Ok, Err, refl, sym, ap, subst, ◌∙◌, arith, ◌==◌}
use Rattle.std.proofs.lemmas.Grind.{common_steps}
use Rattle.std.specs.Option.{option_map}
use Rattle.std.specs.Str.{bytes_eq}
use Rattle.std.specs.Cmp.Lexicographic.{bytes_decides}
use Rattle.iasl_ports.specs.Gained.{Named, Gains}
use Rattle.iasl_ports.specs.Fetched.{find_file, most_bytes}
use Rattle.iasl_ports.specs.Delivery.{Answer, status_of, due_of, text_of}
use Rattle.iasl_runs.specs.Ends.{World, IsQuiet, Ends}
use Rattle.acpi_extract.specs.Dump.{Dumped, Fault, dump_of}
use Rattle.acpi_extract.specs.Table.{message_of}
use Rattle.acpi_extract.specs.Words.{Asked, Code, Every, Listing, One, Request, for_file, with_option, with_signature, request_of, IsFileName, begins, IsCommandLine, of_code, of_every, of_list, of_one}
use Rattle.acpi_extract.specs.Due.{refusal, usage, answer_to_dump, answer_to_text, answer_to_request, answer_for, fault_text, memory_text}
use Rattle.acpi_extract.specs.Calls.{ReadsText, IsAnswer, bad_words, absent, too_large, faulty, a_dump, text_told, EndsWith, CarriesOut}
use Rattle.acpi_extract.proofs.Laws.{list_gains_nothing}
use Rattle.acpi_extract.proofs.GrammarLaws.{tables_are_the_grammars, fault_is_the_grammars}

-- ---- words

named_file : (asked : Asked) (file : List ℕ) → IsFileName file → for_file asked file ≡ Some (record { asked = asked; file = file })
named_file asked file (begins c cs differs) =
    let other : (c == 45) ≡ false = grind (arith, common_steps) in
    rw other refl

-- the words of a command line ask for what it says
request_is : (words : List (List ℕ)) (asked : Asked) (file : List ℕ) → IsCommandLine words asked file → request_of words ≡ Some (record { asked = asked; file = file })
request_is words asked file (of_code f name) = named_file Code f name
request_is words asked file (of_every f name) = named_file Every f name
request_is words asked file (of_list f name) = named_file Listing f name
request_is words asked file (of_one c cs f name) = named_file (One (c ∷ cs)) f name

-- the file of a request
record FileOf (asked : Asked) (file : List ℕ) (request : Request) : Type 0 where
  name : IsFileName file
  is : request ≡ record { asked = asked; file = file }

file_back : (asked : Asked) (file : List ℕ) (request : Request) → for_file asked file ≡ Some request → FileOf asked file request
file_back asked [] request e = absurd cc
file_back asked (c ∷ cs) request e =
    elim (c == 45) as (λ b. (c == 45) ≡ b → cond b None (Some (record { asked = asked; file = c ∷ cs })) ≡ Some request → FileOf asked (c ∷ cs) request) [
      | true ↦ λ f h. absurd cc
      | false ↦ λ f h.
          let differs : c ≡ 45 → ⊥ = λ alike. grind (arith, common_steps) in
          let same : record { asked = asked; file = c ∷ cs } ≡ request = cc in
          record { name = begins c cs differs; is = sym same }
    ] refl e

-- a request is a command line's
line_from : (words : List (List ℕ)) (asked : Asked) (file : List ℕ) (request : Request) → FileOf asked file request → (IsFileName file → IsCommandLine words asked file) → IsCommandLine words request.asked request.file
line_from words asked file request of then = subst (λ (r : Request). IsCommandLine words r.asked r.file) (sym of.is) (then of.name)

option_back : (option file : List ℕ) (request : Request) → with_option option file ≡ Some request → IsCommandLine (option ∷ file ∷ []) request.asked request.file
option_back option file request e =
    elim (bytes_eq option (codes "-a")) as (λ b. bytes_eq option (codes "-a") ≡ b → cond b (for_file Every file) (cond (bytes_eq option (codes "-l")) (for_file Listing file) None) ≡ Some request → IsCommandLine (option ∷ file ∷ []) request.asked request.file) [
      | true ↦ λ f h.
          let same : option ≡ codes "-a" = (bytes_decides option (codes "-a")).0 f in
          line_from (option ∷ file ∷ []) Every file request (file_back Every file request h) (λ name. subst (λ (o : List ℕ). IsCommandLine (o ∷ file ∷ []) Every file) (sym same) (of_every file name))
      | false ↦ λ f h.
          elim (bytes_eq option (codes "-l")) as (λ b. bytes_eq option (codes "-l") ≡ b → cond b (for_file Listing file) None ≡ Some request → IsCommandLine (option ∷ file ∷ []) request.asked request.file) [
            | true ↦ λ g k.
                let same : option ≡ codes "-l" = (bytes_decides option (codes "-l")).0 g in
                line_from (option ∷ file ∷ []) Listing file request (file_back Listing file request k) (λ name. subst (λ (o : List ℕ). IsCommandLine (o ∷ file ∷ []) Listing file) (sym same) (of_list file name))
            | false ↦ λ g k. absurd cc
          ] refl h
    ] refl e

signature_back : (option signature file : List ℕ) (request : Request) → with_signature option signature file ≡ Some request → IsCommandLine (option ∷ signature ∷ file ∷ []) request.asked request.file
signature_back option [] file request e = absurd cc
signature_back option (c ∷ cs) file request e =
    elim (bytes_eq option (codes "-s")) as (λ b. bytes_eq option (codes "-s") ≡ b → cond b (for_file (One (c ∷ cs)) file) None ≡ Some request → IsCommandLine (option ∷ (c ∷ cs) ∷ file ∷ []) request.asked request.file) [
      | true ↦ λ f h.
          let same : option ≡ codes "-s" = (bytes_decides option (codes "-s")).0 f in
          line_from (option ∷ (c ∷ cs) ∷ file ∷ []) (One (c ∷ cs)) file request (file_back (One (c ∷ cs)) file request h) (λ name. subst (λ (o : List ℕ). IsCommandLine (o ∷ (c ∷ cs) ∷ file ∷ []) (One (c ∷ cs)) file) (sym same) (of_one c cs file name))
      | false ↦ λ f h. absurd cc
    ] refl e

line_back : (words : List (List ℕ)) (request : Request) → request_of words ≡ Some request → IsCommandLine words request.asked request.file
line_back [] request e = absurd cc
line_back (file ∷ []) request e = line_from (file ∷ []) Code file request (file_back Code file request e) (λ name. of_code file name)
line_back (option ∷ file ∷ []) request e = option_back option file request e
line_back (option ∷ signature ∷ file ∷ []) request e = signature_back option signature file request e
line_back (a ∷ b ∷ c ∷ d ∷ rest) request e = absurd cc

-- ---- answers

-- the answer by relations is the definition's
answer_is : (words : List (List ℕ)) (told : List Named) (answer : Option Answer) → IsAnswer words told answer → answer_for words told ≡ answer
answer_is words told answer (bad_words none) = by (request_of words) refl
  where
    by : (r : Option Request) → request_of words ≡ r → answer_to_request r told ≡ Some usage
    by None e = refl
    by (Some request) e = absurd (none request.asked request.file (line_back words request e))
answer_is words told answer (absent asked file line none) =
    rw (request_is words asked file line, none) refl
answer_is words told answer (too_large asked file text reads large) =
    let line = request_is words asked file reads.asks in
    let stands = reads.stands in
    let over : nat_lt most_bytes (length text) ≡ true = grind (arith, common_steps) in
    rw (line, stands, over) refl
answer_is words told answer (faulty asked file text fault reads within has) =
    let line = request_is words asked file reads.asks in
    let stands = reads.stands in
    let over : nat_lt most_bytes (length text) ≡ false = grind (arith, common_steps) in
    let is : dump_of text ≡ Err fault = (fault_is_the_grammars text fault).1 has in
    rw (line, stands, over, is) refl
answer_is words told answer (a_dump asked file text tables reads within dump) =
    let line = request_is words asked file reads.asks in
    let stands = reads.stands in
    let over : nat_lt most_bytes (length text) ≡ false = grind (arith, common_steps) in
    let is : dump_of text ≡ Ok tables = (tables_are_the_grammars text tables).1 dump in
    rw (line, stands, over, is) refl

by_dump : (words : List (List ℕ)) (told : List Named) (request : Request) (text : List ℕ) (dump : Result (List Dumped) Fault) → ReadsText words told request.asked request.file text → length text ≤ most_bytes → dump_of text ≡ dump → IsAnswer words told (Some (answer_to_dump request dump))
by_dump words told request text (Err fault) reads within e = faulty request.asked request.file text fault reads within ((fault_is_the_grammars text fault).0 e)
by_dump words told request text (Ok tables) reads within e = a_dump request.asked request.file text tables reads within ((tables_are_the_grammars text tables).0 e)

by_size : (words : List (List ℕ)) (told : List Named) (request : Request) (text : List ℕ) (large : Bool) → ReadsText words told request.asked request.file text → nat_lt most_bytes (length text) ≡ large
    → IsAnswer words told (Some (cond large (refusal request.file (message_of (6007, 1) ∷ [])) (answer_to_dump request (dump_of text))))
by_size words told request text true reads e = too_large request.asked request.file text reads (grind (arith, common_steps))
by_size words told request text false reads e = by_dump words told request text (dump_of text) reads (grind (arith, common_steps)) refl

by_found : (words : List (List ℕ)) (told : List Named) (request : Request) (found : Option (List ℕ)) → IsCommandLine words request.asked request.file → find_file told request.file ≡ found → IsAnswer words told (option_map (answer_to_text request) found)
by_found words told request None line e = absent request.asked request.file line e
by_found words told request (Some text) line e = by_size words told request text (nat_lt most_bytes (length text)) (record { asks = line; stands = e }) refl

by_request : (words : List (List ℕ)) (told : List Named) (request : Option Request) → request_of words ≡ request → IsAnswer words told (answer_to_request request told)
by_request words told None e = bad_words (λ asked file line. let both : None ≡ Some (record { asked = asked; file = file }) = sym e ∙ request_is words asked file line in absurd cc)
by_request words told (Some request) e = by_found words told request (find_file told request.file) (line_back words request e) refl

-- the definition's answer is one by relations
is_answer : (words : List (List ℕ)) (told : List Named) → IsAnswer words told (answer_for words told)
is_answer words told = by_request words told (request_of words) refl

-- ---- ends

-- an end with a status of 0, 1 or 2, or 3 where there is no answer
module _ (answer : List Named → Option Answer) (status : ℕ) (old new : World) (told : List Named) where
  ends_low : (a : Option Answer) → answer told ≡ a → Ends answer fault_text memory_text status old new → old.files.contents ≡ Some told → status ≤ 2 → EndsWith a status old new
  ends_low None e end is low = let three : 3 ≡ status = sym (ap status_of e) ∙ end.settled low told is in absurd (omega (arith, three))
  ends_low (Some a) e end is low = record {
    is = sym (end.settled low told is) ∙ ap status_of e;
    files = subst (λ (o : Option Answer). Gains old.outputs.written new.outputs.written (due_of o)) e ((end.outs told is).ended low);
    text = subst (λ (o : Option Answer). Gains old.console.told new.console.told (text_told o)) e (text_of_low (answer told) e ((end.console told is).ended low));
  }
    where
      text_of_low : (o : Option Answer) → o ≡ Some a → Gains old.console.told new.console.told (text_of o) → Gains old.console.told new.console.told (text_told o)
      text_of_low None f h = absurd cc
      text_of_low (Some b) f h = h

  ends_absent : answer told ≡ None → Ends answer fault_text memory_text status old new → old.files.contents ≡ Some told → IsQuiet old new → status ≡ 3 → EndsWith None status old new
  ends_absent e end is quiet three = record {
    is = three;
    files = subst (λ (o : Option Answer). Gains old.outputs.written new.outputs.written (due_of o)) e ((end.outs told is).all_but_told three (quiet.files, quiet.outputs));
    text = end.fault_told.fault_whole three quiet.console;
  }

module _ (words : List (List ℕ)) (status : ℕ) (old new : World) (told : List Named) (end : Ends (answer_for words) fault_text memory_text status old new) (is : old.files.contents ≡ Some told) where
  -- 0, 1 and 2 come only of an answer by relations
  is_sound : status ≤ 2 → (answer : Option Answer) × IsAnswer words told answer × EndsWith answer status old new
  is_sound low = (answer_for words told, is_answer words told, ends_low (answer_for words) status old new told (answer_for words told) refl end is low)

  settled : (answer : Option Answer) → IsAnswer words told answer → (status_of answer ≤ 2) ⊎ (answer ≡ None)
  settled answer (bad_words none) = inl (omega arith)
  settled answer (absent asked file line none) = inr refl
  settled answer (too_large asked file text reads large) = inl (omega arith)
  settled answer (faulty asked file text fault reads within has) = inl (omega arith)
  settled answer (a_dump asked file text tables reads within dump) = inl (omega arith)

  by_status : (answer : Option Answer) → answer_for words told ≡ answer → IsQuiet old new → (status_of answer ≤ 2) ⊎ (answer ≡ None) → (status ≡ status_of answer) ⊎ (status ≡ 4) → EndsWith answer status old new ⊎ (status ≡ 4)
  by_status answer e quiet low (inr four) = inr four
  by_status answer e quiet (inl low) (inl same) = inl (ends_low (answer_for words) status old new told answer e end is (subst (λ (n : ℕ). n ≤ 2) (sym same) low))
  by_status answer e quiet (inr none) (inl same) =
      let here = ends_absent (answer_for words) status old new told (e ∙ none) end is quiet (same ∙ ap status_of none) in
      inl (subst (λ (o : Option Answer). EndsWith o status old new) (sym none) here)

  -- and each answer by relations is what the call ends with, where no count rose
  is_complete : (answer : Option Answer) → IsAnswer words told answer → IsQuiet old new → EndsWith answer status old new ⊎ (status ≡ 4)
  is_complete answer a quiet =
      let e = answer_is words told answer a in
      by_status answer e quiet (settled answer a) (subst (λ (o : Option Answer). (status ≡ status_of o) ⊎ (status ≡ 4)) e (end.quiet told is quiet))

-- a call that so ends carries out its words
pub carries_out : (words : List (List ℕ)) (status : ℕ) (old new : World) → Ends (answer_for words) fault_text memory_text status old new → CarriesOut words status old new
carries_out words status old new end = record {
  ends = end;
  sound = λ low told is. is_sound words status old new told end is low;
  complete = λ told is answer called quiet. is_complete words status old new told end is answer called quiet;
  list = λ asked told is. list_gains_nothing words told status _ _ _ _ asked (end.outs told is);
}
