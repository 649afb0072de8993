-- What the bytes of a generic table read as, by the places, types and sizes of a list, is one list of values.
use Rattle.std.proofs.Common.{◌≡◌, ◌+◌, ℕ, List, [], ◌∷◌, Ok, refl, sym, ap, subst, ◌∙◌}
use Rattle.iasl_messages.specs.declared.place.Place.{Place}
use Rattle.iasl_messages.specs.declared.place.Line.{Line}
use Rattle.data_text.specs.Source.{text_of}
use Rattle.data_tables.specs.declared.compiled.Compiled.{Compiled}
use Rattle.data_tables.specs.Entry.{Entry}
use Rattle.data_tables.specs.Reading.{bytes_at}
use Rattle.data_tables.specs.Compiling.{joined, answer_with_texts, with_texts}
use Rattle.data_generic.specs.declared.types.DataType.{DataType}
use Rattle.data_generic.specs.Compiling.{DataEntry, generic_text, compiled_generic, written_header, written_data}
use Rattle.data_generic.specs.Reading.{said, form_of, forms_of, ReadsData, ReadsGeneric}
use Rattle.data_generic.proofs.Law.{reads_as_written}

entries_one : (bytes : List ℕ) (offset : ℕ) (one two : List DataEntry) → forms_of one ≡ forms_of two → ReadsData bytes offset one → ReadsData bytes offset two → one ≡ two
entries_one bytes offset [] [] e r s = refl
entries_one bytes offset [] (b ∷ two) e r s = absurd cc
entries_one bytes offset (a ∷ one) [] e r s = absurd cc
entries_one bytes offset (a ∷ one) (b ∷ two) e r s =
    let same : form_of a ≡ form_of b = cc in
    let others : forms_of one ≡ forms_of two = cc in
    let place : a.place ≡ b.place = ap (λ (f : Place × DataType × ℕ). f.0) same in
    let form : a.form ≡ b.form = ap (λ (f : Place × DataType × ℕ). f.1) same in
    let size : a.size ≡ b.size = ap (λ (f : Place × DataType × ℕ). f.2) same in
    let said_same : said a.form (bytes_at bytes offset a.size) ≡ said b.form (bytes_at bytes offset b.size) = λ i. said (form i) (bytes_at bytes offset (size i)) in
    let value : a.value ≡ b.value = r.1 ∙ said_same ∙ sym s.1 in
    let entry : a ≡ b = λ i. record { place = place i; form = form i; size = size i; value = value i } in
    let rest : one ≡ two = entries_one bytes (offset + a.size) one two others r.2 (subst (λ (n : ℕ). ReadsData bytes (offset + n) two) (sym size) s.2) in
    λ i. entry i ∷ rest i

pub reads_one : (bytes : List ℕ) (h1 h2 : List Entry) (one two : List DataEntry) → forms_of one ≡ forms_of two → ReadsGeneric bytes h1 one → ReadsGeneric bytes h2 two → (h1 ≡ h2) × (one ≡ two)
reads_one bytes h1 h2 one two e r s = (r.values ∙ sym s.values, entries_one bytes 36 one two e r.data_read s.data_read)

-- so it is what the text writes, and nothing else
pub only_written : (lines : List Line) (out : Compiled) → compiled_generic lines ≡ Ok out → (header : List Entry) (entries : List DataEntry) → ReadsGeneric (joined out.pieces) header entries → forms_of entries ≡ forms_of (written_data lines)
    → (header ≡ written_header lines) × (entries ≡ written_data lines)
only_written lines out e header entries r f = reads_one (joined out.pieces) header (written_header lines) entries (written_data lines) f r (reads_as_written lines out e)

-- the same of an answer, in the form of the code
pub only_compiled : (lines slice : List Line) (table out : Compiled) → slice ≡ lines → generic_text (text_of slice) ≡ Ok table → out ≡ record table { pieces = with_texts slice table.pieces } → (header : List Entry) (entries : List DataEntry)
    → ReadsGeneric (joined out.pieces) header entries → forms_of entries ≡ forms_of (written_data lines) → (header ≡ written_header lines) × (entries ≡ written_data lines)
only_compiled lines slice table out same exact made header entries r f =
    let is : compiled_generic slice ≡ Ok out = ap (answer_with_texts slice) exact ∙ ap (λ (t : Compiled). Ok t) (sym made) in
    only_written lines out (subst (λ (ls : List Line). compiled_generic ls ≡ Ok out) same is) header entries r f
