-- What follows from the definition of a dump alone.
use Rattle.std.proofs.Common.{◌≡◌, ◌⊎◌, inl, inr, ℕ, Bool, true, false, cond, nat_lt, nat_le, List, [], ◌∷◌, ◌++◌, length, take, drop, Option, Some, None, Result, Ok, Err, IsTrue, arith, ◌&&◌, refl, sym, ap, subst, ◌∙◌, append-nil}
use Rattle.std.specs.Prelude.{IsSomeAnd}
use Rattle.std.specs.Option.{option_map}
use Rattle.std.proofs.Math.Seq.{take-nil, drop-nil}
use Rattle.std.specs.List.{flat_map, All}
use Rattle.std.proofs.lemmas.List.Elements.{All-cons}
use Rattle.iasl_ports.specs.Gained.{Named, Gains, GainsSome, IsPartOfFirst}
use Rattle.iasl_ports.specs.Fetched.{find_file, most_bytes}
use Rattle.iasl_ports.specs.Delivery.{Answer, due_of, OutsGained}
use Rattle.iasl_messages.specs.Cut.{lines_of}
use Rattle.hex_text.specs.Blanks.{has_blanks_alone}
use Rattle.acpi_extract.specs.Lines.{is_signature, is_header_with, is_address, signature_of}
use Rattle.acpi_extract.specs.Dump.{Dumped, Fault, Numbered, Block, Headed, Stray, Cut, strays, cut_at_line, cut_at_header, all_blocks, cut_of, numbered_from, bytes_of, tells_length, table_of, answer_of, then_all, all_of, dump_of}
use Rattle.acpi_extract.specs.Table.{message_of}
use Rattle.acpi_extract.specs.Words.{Asked, Listing, Request, request_of}
use Rattle.acpi_extract.specs.Due.{numbered, file_of, refusal, answer_to_dump, answer_to_text, answer_to_request, answer_for}

-- a list of tables puts no file
pub list_puts_nothing : (before tables : List Dumped) → flat_map (file_of Listing) (numbered before tables) ≡ []
list_puts_nothing before [] = refl
list_puts_nothing before (table ∷ rest) = list_puts_nothing (before ++ table ∷ []) rest

-- no answer to words that ask for a list has a file
list_due : (request : Request) (text : List ℕ) → request.asked ≡ Listing → (answer_to_text request text).due ≡ []
list_due request text e =
    elim (nat_lt most_bytes (length text)) as (λ b. (cond b (refusal request.file (message_of (6007, 1) ∷ [])) (answer_to_dump request (dump_of text))).due ≡ []) [
      | true ↦ refl
      | false ↦
          elim (dump_of text) as (λ d. (answer_to_dump request d).due ≡ []) [
            | Err fault ↦ refl
            | Ok tables ↦ ap (λ (asked : Asked). flat_map (file_of asked) (numbered [] tables)) e ∙ list_puts_nothing [] tables
          ]
    ]

list_found : (request : Request) (found : Option (List ℕ)) → request.asked ≡ Listing → due_of (option_map (answer_to_text request) found) ≡ []
list_found request None e = refl
list_found request (Some text) e = list_due request text e

list_asked : (asked : Option Request) (told : List Named) → IsSomeAnd asked (λ request. request.asked ≡ Listing) → due_of (answer_to_request asked told) ≡ []
list_asked None told h = absurd h
list_asked (Some request) told h = list_found request (find_file told request.file) h

-- some first files of none are none
some_of_none : (torn : Type 0) (old new : Option (List Named)) → GainsSome torn old new [] → Gains old new []
some_of_none torn old new g =
    let rest : (g.part ≡ []) ⊎ (torn × IsPartOfFirst [] g.part) = subst (λ (files : List Named). (g.part ≡ []) ⊎ (torn × IsPartOfFirst files g.part)) (drop-nil g.whole) g.next in
    let part : g.part ≡ [] = elim rest as (λ r. g.part ≡ []) [ inl e ↦ e | inr e ↦ e.1 ] in
    subst (Gains old new) (ap (λ (files : List Named). take g.whole [] ++ files) part ∙ append-nil (take g.whole []) ∙ take-nil g.whole) g.gained

none_gained : (answer : Option Answer) (status : ℕ) (rose calm : Type 0) (old new : Option (List Named)) → due_of answer ≡ [] → OutsGained answer status rose calm old new → Gains old new []
none_gained answer status rose calm old new e outs =
    elim (nat_le status 2) as (λ b. nat_le status 2 ≡ b → Gains old new []) [
      | true ↦ λ f. subst (Gains old new) e (outs.ended (grind arith))
      | false ↦ λ f. some_of_none (rose × (status ≡ 3)) old new (subst (GainsSome (rose × (status ≡ 3)) old new) e (outs.stopped (grind arith)))
    ] refl

-- the outputs gain nothing where the words ask for a list
pub list_gains_nothing : (words : List (List ℕ)) (told : List Named) (status : ℕ) (rose calm : Type 0) (old new : Option (List Named)) → IsSomeAnd (request_of words) (λ request. request.asked ≡ Listing) → OutsGained (answer_for words told) status rose calm old new → Gains old new []
list_gains_nothing words told status rose calm old new h outs = none_gained (answer_for words told) status rose calm old new (list_asked (request_of words) told h) outs

-- a table of the form: its signature is one, and it tells its length
pub record IsTable (table : Dumped) : Type 0 where
  pub named : IsTrue (is_signature table.0)
  pub measured : IsTrue (tells_length table.0 table.1)

-- each header among these blocks has a signature of the form
abbrev AreNamed : List Block → Type 0
AreNamed [] = Unit {0}
AreNamed (Headed number signature lines ∷ blocks) = IsTrue (is_signature signature) × AreNamed blocks
AreNamed (Stray number ∷ blocks) = AreNamed blocks

with_strays : (lines : List Numbered) (blocks : List Block) → AreNamed blocks → AreNamed (strays lines ++ blocks)
with_strays [] blocks h = h
with_strays (line ∷ lines) blocks h = h

and_first : (a b : Bool) → (a && b) ≡ true → a ≡ true
and_first true b h = refl
and_first false b h = absurd cc

header_named : (line signature : List ℕ) → signature_of line ≡ Some signature → IsTrue (is_signature signature)
header_named line signature h =
    let P : List ℕ → Type 0 = λ s. IsTrue (is_signature s) in
    elim (is_header_with 4 line) as (λ b. is_header_with 4 line ≡ b → cond b (Some (take 4 line)) (cond (is_header_with 7 line) (Some (take 7 line)) None) ≡ Some signature → P signature) [
      | true ↦ λ e k. let same : take 4 line ≡ signature = cc in subst P same (and_first (is_signature (take 4 line)) (is_address (drop 4 line)) e)
      | false ↦ λ e.
          elim (is_header_with 7 line) as (λ b. is_header_with 7 line ≡ b → cond b (Some (take 7 line)) None ≡ Some signature → P signature) [
            | true ↦ λ f k. let same : take 7 line ≡ signature = cc in subst P same (and_first (is_signature (take 7 line)) (is_address (drop 7 line)) f)
            | false ↦ λ f k. absurd cc
          ] refl
    ] refl h

named_at : (line : Numbered) (cut : Cut) → AreNamed cut.1 → AreNamed (cut_at_line line cut).1
named_at line cut h =
    elim (has_blanks_alone line.1) as (λ b. AreNamed (cond b ([], all_blocks cut) (cut_at_header line (signature_of line.1) cut)).1) [
      | true ↦ with_strays cut.0 cut.1 h
      | false ↦
          elim (signature_of line.1) as (λ s. signature_of line.1 ≡ s → AreNamed (cut_at_header line s cut).1) [
            | None ↦ λ e. h
            | Some signature ↦ λ e. (header_named line.1 signature e, h)
          ] refl
    ]

named_cut : (lines : List Numbered) → AreNamed (cut_of lines).1
named_cut [] = tt
named_cut (line ∷ lines) = named_at line (cut_of lines) (named_cut lines)

block_table : (block : Block) (table : Dumped) → AreNamed (block ∷ []) → answer_of block ≡ Ok table → IsTable table
block_table (Stray number) table h e = absurd cc
block_table (Headed number signature lines) table h e =
    elim (bytes_of [] lines) as (λ r. table_of number signature r ≡ Ok table → IsTable table) [
      | Err fault ↦ λ k. absurd cc
      | Ok bytes ↦
          elim (tells_length signature bytes) as (λ b. tells_length signature bytes ≡ b → ◌≡◌ {A = Result Dumped Fault} (cond b (Ok (signature, bytes)) (Err (6103, number))) (Ok table) → IsTable table) [
            | true ↦ λ f k.
                let l : ◌≡◌ {A = Result Dumped Fault} (Ok (signature, bytes)) (Ok table) = k in
                let same : ◌≡◌ {A = Dumped} (signature, bytes) table = cc in
                subst IsTable same (record { named = h.0; measured = f })
            | false ↦ λ f k. let l : ◌≡◌ {A = Result Dumped Fault} (Err (6103, number)) (Ok table) = k in absurd cc
          ] refl
    ] e

pub first_and_rest : (first : Result Dumped Fault) (others : Result (List Dumped) Fault) (tables : List Dumped) → then_all first others ≡ Ok tables → (table : Dumped) × (rest : List Dumped) × (first ≡ Ok table) × (others ≡ Ok rest) × (tables ≡ table ∷ rest)
first_and_rest (Err fault) others tables e = absurd cc
first_and_rest (Ok table) (Err fault) tables e = absurd cc
first_and_rest (Ok table) (Ok rest) tables e = (table, rest, refl, refl, cc)

head_named : (block : Block) (blocks : List Block) → AreNamed (block ∷ blocks) → AreNamed (block ∷ []) × AreNamed blocks
head_named (Headed number signature lines) blocks h = ((h.0, tt), h.1)
head_named (Stray number) blocks h = (tt, h)

all_tables : (blocks : List Block) (tables : List Dumped) → AreNamed blocks → all_of blocks ≡ Ok tables → All IsTable tables
all_tables [] tables h e = let same : [] ≡ tables = cc in subst (All IsTable) same (λ k d l. absurd (omega arith))
all_tables (block ∷ blocks) tables h e =
    let parts = first_and_rest (answer_of block) (all_of blocks) tables e in
    let named = head_named block blocks h in
    subst (All IsTable) (sym parts.4) (All-cons IsTable parts.0 parts.1 (block_table block parts.0 named.0 parts.2) (all_tables blocks parts.1 named.1 parts.3))

-- each table of a dump has a signature of the form, and tells its length unless it is an RSDP
pub tables_have_their_form : (text : List ℕ) (tables : List Dumped) → dump_of text ≡ Ok tables → All IsTable tables
tables_have_their_form text tables e =
    let cut : Cut = cut_of (numbered_from 1 (lines_of text)) in
    all_tables (all_blocks cut) tables (with_strays cut.0 cut.1 (named_cut (numbered_from 1 (lines_of text)))) e
