-- The lines that tell of tables, and what is put of these.
use Rattle.std.proofs.Common.{◌≡◌, ℕ, List, [], ◌∷◌, ◌++◌, append_assoc, append-nil, reverse, length, refl, sym, ap, ◌∙◌, subst}
use Rattle.std.proofs.lemmas.List.{reverse-append}
use Rattle.std.specs.Prelude.{string_bytes}
use Rattle.iasl_ports.specs.Gained.{Named}
use Rattle.iasl_messages.specs.Console.{table_line}
use Rattle.iasl_messages.specs.declared.place.Piece.{Piece}
use Rattle.iasl_options.specs.Asking.{Asked}
use Rattle.iasl_backends.specs.Table.{table_bytes}
use Rattle.block_outcomes.specs.declared.outcome.Table.{Table}
use Rattle.asl_tables.specs.Compiled.{HaveAsciiNames}
use Rattle.table_outputs.specs.declared.decision.TableNames.{TableNames}
use Rattle.table_outputs.specs.declared.decision.TableOutputs.{TableOutputs}
use Rattle.table_outputs.specs.Files.{table_name, table_files}
use Rattle.table_outputs.specs.Decision.{table_files_under, all_files, table_kinds, kinds_in, HaveKinds}
use Rattle.iasl_tool.specs.declared.due.Outputs.{Outputs}
use Rattle.iasl_tool.specs.Due.{lines_of_tables, files_of_tables, last_pieces}
use Rattle.iasl_tool.specs.Outputs.{PutsTable, AreOutputsOf, last_made}

-- the name of the first of a table's files
abbrev first_name : List Named → List ℕ
first_name [] = []
first_name (file ∷ files) = file.0

pub name_of_first : (asked : Asked) (file own : List ℕ) (pieces : List Piece) (names : TableNames) → table_files_under names pieces ≡ table_files asked file own pieces → string_bytes names.table ≡ table_name asked file own
name_of_first asked file own pieces names e = ap first_name e

pub line_as : {name shown signature told : List ℕ} {pieces given : List Piece} → name ≡ shown → signature ≡ told → pieces ≡ given → table_line name signature (length (table_bytes pieces)) ≡ table_line shown told (length (table_bytes given))
line_as {shown = shown} {signature = signature} {told = told} {pieces = pieces} n s p =
    ap (λ x. table_line x signature (length (table_bytes pieces))) n ∙ ap (λ x. table_line shown x (length (table_bytes pieces))) s ∙ ap (λ x. table_line shown told (length (table_bytes x))) p

-- one table more

made_more : (ts : List TableOutputs) (t : TableOutputs) → all_files (ts ++ t ∷ []) ≡ all_files ts ++ table_files_under t.names t.pieces
made_more [] t = append-nil (table_files_under t.names t.pieces)
made_more (x ∷ xs) t = ap (λ fs. table_files_under x.names x.pieces ++ fs) (made_more xs t) ∙ sym (append_assoc (table_files_under x.names x.pieces) (all_files xs) (table_files_under t.names t.pieces))

kinds_more : (kinds : _) (ts : List TableOutputs) (t : TableOutputs) → HaveKinds kinds ts → table_kinds t.names ≡ kinds → HaveKinds kinds (ts ++ t ∷ [])
kinds_more kinds [] t h k = (k, tt)
kinds_more kinds (x ∷ xs) t h k = (h.0, kinds_more kinds xs t h.1 k)

last_made_more : (ts : List TableOutputs) (t : TableOutputs) → last_made (ts ++ t ∷ []) ≡ t.pieces
last_made_more [] t = refl
last_made_more (x ∷ []) t = refl
last_made_more (x ∷ (y ∷ ys)) t = last_made_more (y ∷ ys) t

last_more : (ts : List Table) (t : Table) → last_pieces (ts ++ t ∷ []) ≡ t.pieces
last_more [] t = refl
last_more (x ∷ []) t = refl
last_more (x ∷ (y ∷ ys)) t = last_more (y ∷ ys) t

-- tables and the last of them
module _ (tables earlier : List TableOutputs) (last : TableOutputs) (split : tables ≡ earlier ++ last ∷ []) where
  pub all_split : all_files earlier ++ table_files_under last.names last.pieces ≡ all_files tables
  all_split = sym (ap all_files split ∙ made_more earlier last)

  pub last_split : last.pieces ≡ last_made tables
  last_split = sym (ap last_made split ∙ last_made_more earlier last)

  pub kinds_split : (kinds : _) → HaveKinds kinds tables → (table_kinds last.names ≡ kinds) × HaveKinds kinds earlier
  kinds_split kinds h = each earlier (subst (HaveKinds kinds) split h)
    where
      each : (ts : List TableOutputs) → HaveKinds kinds (ts ++ last ∷ []) → (table_kinds last.names ≡ kinds) × HaveKinds kinds ts
      each [] h = (h.0, tt)
      each (t ∷ ts) h = let rest = each ts h.1 in (rest.0, (h.0, rest.1))

module _ (asked : Asked) (file : List ℕ) where
  abbrev line_of : Table → List ℕ
  line_of table = table_line (table_name asked file table.own) table.signature (length (table_bytes table.pieces))

  lines_more : (ts : List Table) (t : Table) → lines_of_tables asked file (ts ++ t ∷ []) ≡ lines_of_tables asked file ts ++ line_of t
  lines_more [] t = append-nil (line_of t)
  lines_more (x ∷ xs) t = ap (λ ls. line_of x ++ ls) (lines_more xs t) ∙ sym (append_assoc (line_of x) (lines_of_tables asked file xs) (line_of t))

  files_more : (ts : List Table) (t : Table) → files_of_tables asked file (ts ++ t ∷ []) ≡ files_of_tables asked file ts ++ table_files asked file t.own t.pieces
  files_more [] t = append-nil (table_files asked file t.own t.pieces)
  files_more (x ∷ xs) t =
      ap (λ fs. table_files asked file x.own x.pieces ++ fs) (files_more xs t) ∙ sym (append_assoc (table_files asked file x.own x.pieces) (files_of_tables asked file xs) (table_files asked file t.own t.pieces))

  one_more : (ts : List Table) (table : Table) (all more : Outputs) → PutsTable asked file table all more → AreOutputsOf asked file ts all → AreOutputsOf asked file (ts ++ table ∷ []) more
  one_more ts table all more p h = record {
    lines = p.lines ∙ ap (λ ls. ls ++ line_of table) h.lines ∙ sym (lines_more ts table);
    files = ap all_files p.tables ∙ made_more all.tables p.one ∙ ap (λ fs. all_files all.tables ++ fs) p.files
        ∙ ap (λ fs. fs ++ table_files asked file table.own table.pieces) h.files ∙ sym (files_more ts table);
    kinds = subst (HaveKinds (kinds_in asked)) (sym p.tables) (kinds_more (kinds_in asked) all.tables p.one h.kinds p.kinds);
    pieces = ap last_made p.tables ∙ last_made_more all.tables p.one ∙ p.pieces ∙ sym (last_more ts table);
  }

  -- Some tables are gathered. Those that are left stand backwards.
  pub record AreGathered (tables left : List Table) (all : Outputs) : Type 0 where
    pub done : List Table
    pub are : tables ≡ done ++ reverse left
    pub own : HaveAsciiNames (reverse left)
    pub gathered : AreOutputsOf asked file done all

  module _ (tables : List Table) where
    reverse_twice : (ts : List Table) → reverse (reverse ts) ≡ ts
    reverse_twice [] = refl
    reverse_twice (t ∷ ts) = ap reverse (reverse-append (t ∷ []) ts) ∙ reverse-append (reverse ts) (t ∷ []) ∙ ap (λ xs. t ∷ xs) (reverse_twice ts)

    pub none_gathered : (left : List Table) (all : Outputs) → left ≡ reverse tables → all.lines.items ≡ [] → all.tables ≡ [] → HaveAsciiNames tables → AreGathered tables left all
    none_gathered left all e lines list own =
        let back : reverse left ≡ tables = ap reverse e ∙ reverse_twice tables in
        record {
          done = [];
          are = sym back;
          own = subst HaveAsciiNames (sym back) own;
          gathered = record { lines = lines; files = ap all_files list; kinds = subst (HaveKinds (kinds_in asked)) (sym list) tt; pieces = ap last_made list };
        }

    popped : (left new : List Table) (table : Table) → left ≡ new ++ table ∷ [] → reverse left ≡ table ∷ reverse new
    popped left new table e = ap reverse e ∙ reverse-append new (table ∷ [])

    pub next_own : (left new : List Table) (table : Table) (all : Outputs) → left ≡ new ++ table ∷ [] → AreGathered tables left all → HaveAsciiNames (table ∷ reverse new)
    next_own left new table all e h = subst HaveAsciiNames (popped left new table e) h.own

    pub one_gathered : (left new : List Table) (table : Table) (all more : Outputs) → left ≡ new ++ table ∷ [] → PutsTable asked file table all more → AreGathered tables left all → AreGathered tables new more
    one_gathered left new table all more e p h = record {
      done = h.done ++ table ∷ [];
      are = h.are ∙ ap (λ ts. h.done ++ ts) (popped left new table e) ∙ sym (append_assoc h.done (table ∷ []) (reverse new));
      own = (next_own left new table all e h).1;
      gathered = one_more h.done table all more p h.gathered;
    }

    pub all_gathered : (left : List Table) (all : Outputs) → left ≡ [] → AreGathered tables left all → AreOutputsOf asked file tables all
    all_gathered left all e h =
        let same : h.done ≡ tables = sym (h.are ∙ ap (λ ts. h.done ++ reverse ts) e ∙ append-nil h.done) in
        subst (λ ts. AreOutputsOf asked file ts all) same h.gathered
