-- A dump has tables exactly where its lines have the grammar, and they are those tables; else it has the grammar's first fault.
use Rattle.std.proofs.Common.{◌≡◌, ℕ, ◌+◌, true, false, cond, List, [], ◌∷◌, ◌++◌, length, Some, None, Result, Ok, Err, ◌↔◌, refl, sym, ap, subst, ◌∙◌, arith, add-zero, ◌==◌}
use Rattle.std.proofs.lemmas.Grind.{common_steps}
use Rattle.iasl_messages.specs.Cut.{lines_of}
use Rattle.hex_text.specs.Blanks.{has_blanks_alone}
use Rattle.acpi_extract.specs.Lines.{signature_of}
use Rattle.acpi_extract.specs.Rows.{row_of}
use Rattle.acpi_extract.specs.Dump.{Dumped, Fault, Numbered, Headed, Cut, strays, all_blocks, cut_of, blocks_of, numbered_from, bytes_of, bytes_with, tells_length, table_of, then_all, all_of, dump_of}
use Rattle.acpi_extract.specs.Grammar.{IsInner, Spells, ended, row, EndsTable, at_end, at_blank, at_header, IsDump, nothing, blank, table, GoWrong, unformed, displaced, behind, HasFault, stray, behind_blank, in_rows, untold, behind_table}
use Rattle.acpi_extract.proofs.Laws.{first_and_rest}

-- ---- the grammar's dumps are read

same_is_equal : (n : ℕ) → (n == n) ≡ true
same_is_equal n = grind (arith, common_steps)

spelled : (n : ℕ) (before bytes : List ℕ) (lines : List (List ℕ)) → Spells before lines bytes → bytes_of before (numbered_from n lines) ≡ Ok bytes
spelled n before bytes lines (ended b) = refl
spelled n before bytes lines (row b more a line rest inner is spells) =
    let here : (length b == length b) ≡ true = same_is_equal (length b) in
    rw (is, here) (spelled (n + 1) (b ++ more) a rest spells)

ends_cut : (n : ℕ) (rest : List (List ℕ)) → EndsTable rest → (cut_of (numbered_from n rest)).0 ≡ []
ends_cut n rest at_end = refl
ends_cut n rest (at_blank line lines e) = rw e refl
ends_cut n rest (at_header line signature lines e f) = rw (e, f) refl

rows_cut : (n : ℕ) (before bytes : List ℕ) (lines rest : List (List ℕ)) → Spells before lines bytes → EndsTable rest → cut_of (numbered_from n (lines ++ rest)) ≡ (numbered_from n lines, (cut_of (numbered_from (n + length lines) rest)).1)
rows_cut n before bytes lines rest (ended b) ends =
    let e : (cut_of (numbered_from n rest)).0 ≡ [] = ends_cut n rest ends in
    rw add-zero (λ i. (e i, (cut_of (numbered_from n rest)).1))
rows_cut n before bytes lines rest (row b more a line ls inner is spells) ends =
    let s : n + length (line ∷ ls) ≡ n + 1 + length ls = omega arith in
    let f = inner.not_blank in
    let g = inner.no_header in
    rw (s, f, g, rows_cut (n + 1) (b ++ more) a ls rest spells ends) refl

rest_read : (cut : Cut) (tables : List Dumped) → cut.0 ≡ [] → all_of (all_blocks cut) ≡ Ok tables → all_of cut.1 ≡ Ok tables
rest_read cut tables e h = let P : List Numbered → Type 0 = λ rows. all_of (strays rows ++ cut.1) ≡ Ok tables in subst P e h

dump_read : (n : ℕ) (lines : List (List ℕ)) (tables : List Dumped) → IsDump lines tables → all_of (blocks_of (numbered_from n lines)) ≡ Ok tables
dump_read n lines tables nothing = refl
dump_read n lines tables (blank line ls ts e dump) = rw e (dump_read (n + 1) ls ts dump)
dump_read n lines tables (table header signature bytes rows rest ts e f spells tells ends dump) =
    let m : ℕ = n + 1 + length rows in
    let others : all_of (cut_of (numbered_from m rest)).1 ≡ Ok ts = rest_read (cut_of (numbered_from m rest)) ts (ends_cut m rest ends) (dump_read m rest ts dump) in
    rw (e, f, rows_cut (n + 1) [] bytes rows rest spells ends, spelled (n + 1) [] bytes rows spells, tells, others) refl

-- the lines under a header, up to a blank line, a further header or the end, go wrong where all do
wrong_read : (n : ℕ) (before : List ℕ) (lines : List (List ℕ)) (fault : Fault) → GoWrong n before lines fault → bytes_of before (cut_of (numbered_from n lines)).0 ≡ Err fault
wrong_read n before lines fault (unformed m b line rest inner is) =
    let f = inner.not_blank in
    let g = inner.no_header in
    rw (f, g, is) refl
wrong_read n before lines fault (displaced m offset b more line rest inner is differs) =
    let f = inner.not_blank in
    let g = inner.no_header in
    let other : (offset == length b) ≡ false = grind (arith, common_steps) in
    rw (f, g, is, other) refl
wrong_read n before lines fault (behind m b more line rest x inner is wrong) =
    let f = inner.not_blank in
    let g = inner.no_header in
    let here : (length b == length b) ≡ true = same_is_equal (length b) in
    rw (f, g, is, here) (wrong_read (m + 1) (b ++ more) rest x wrong)

rest_faulty : (cut : Cut) (fault : Fault) → cut.0 ≡ [] → all_of (all_blocks cut) ≡ Err fault → all_of cut.1 ≡ Err fault
rest_faulty cut fault e h = let P : List Numbered → Type 0 = λ rows. all_of (strays rows ++ cut.1) ≡ Err fault in subst P e h

fault_read : (n : ℕ) (lines : List (List ℕ)) (fault : Fault) → HasFault n lines fault → all_of (blocks_of (numbered_from n lines)) ≡ Err fault
fault_read n lines fault (stray m line rest inner) =
    let f = inner.not_blank in
    let g = inner.no_header in
    rw (f, g) refl
fault_read n lines fault (behind_blank m line rest x e has) = rw e (fault_read (m + 1) rest x has)
fault_read n lines fault (in_rows m header signature rest x e f wrong) =
    rw (e, f, wrong_read (m + 1) [] rest x wrong) refl
fault_read n lines fault (untold m header signature bytes rows rest e f spells tells ends) =
    rw (e, f, rows_cut (m + 1) [] bytes rows rest spells ends, spelled (m + 1) [] bytes rows spells, tells) refl
fault_read n lines fault (behind_table m header signature bytes rows rest x e f spells tells ends has) =
    let k : ℕ = m + 1 + length rows in
    let others : all_of (cut_of (numbered_from k rest)).1 ≡ Err x = rest_faulty (cut_of (numbered_from k rest)) x (ends_cut k rest ends) (fault_read k rest x has) in
    rw (e, f, rows_cut (m + 1) [] bytes rows rest spells ends, spelled (m + 1) [] bytes rows spells, tells, others) refl

-- ---- what is read is of the grammar

abbrev AllInner : List (List ℕ) → Type 0
AllInner [] = Unit {0}
AllInner (line ∷ lines) = IsInner line × AllInner lines

equal_from_test : (n m : ℕ) → (n == m) ≡ true → n ≡ m
equal_from_test n m e = grind (arith, common_steps)

spells_back : (n : ℕ) (before bytes : List ℕ) (lines : List (List ℕ)) → AllInner lines → bytes_of before (numbered_from n lines) ≡ Ok bytes → Spells before lines bytes
spells_back n before bytes [] inner e = let same : before ≡ bytes = cc in subst (Spells before []) same (ended before)
spells_back n before bytes (line ∷ lines) inner e =
    elim (row_of line) as (λ r. row_of line ≡ r → bytes_with n before r (λ all. bytes_of all (numbered_from (n + 1) lines)) ≡ Ok bytes → Spells before (line ∷ lines) bytes) [
      | None ↦ λ f h. absurd cc
      | Some found ↦ λ f h.
          elim (found.0 == length before) as (λ b. (found.0 == length before) ≡ b → ◌≡◌ {A = Result (List ℕ) Fault} (cond b (bytes_of (before ++ found.1) (numbered_from (n + 1) lines)) (Err (6102, n))) (Ok bytes) → Spells before (line ∷ lines) bytes) [
            | true ↦ λ g k.
                let here : found.0 ≡ length before = equal_from_test found.0 (length before) g in
                let is : row_of line ≡ Some (length before, found.1) = f ∙ ap (λ (offset : ℕ). Some (offset, found.1)) here in
                row before found.1 bytes line lines inner.0 is (spells_back (n + 1) (before ++ found.1) bytes lines inner.1 k)
            | false ↦ λ g k. let l : ◌≡◌ {A = Result (List ℕ) Fault} (Err (6102, n)) (Ok bytes) = k in absurd cc
          ] refl h
    ] refl e

table_parts : (n : ℕ) (signature : List ℕ) (read : Result (List ℕ) Fault) (found : Dumped) → table_of n signature read ≡ Ok found → (bytes : List ℕ) × (read ≡ Ok bytes) × (tells_length signature bytes ≡ true) × (found ≡ (signature, bytes))
table_parts n signature (Err fault) found e = absurd cc
table_parts n signature (Ok bytes) found e =
    elim (tells_length signature bytes) as (λ b. tells_length signature bytes ≡ b → ◌≡◌ {A = Result Dumped Fault} (cond b (Ok (signature, bytes)) (Err (6103, n))) (Ok found) → (all : List ℕ) × (◌≡◌ {A = Result (List ℕ) Fault} (Ok bytes) (Ok all)) × (tells_length signature all ≡ true) × (found ≡ (signature, all))) [
      | true ↦ λ f k.
          let l : ◌≡◌ {A = Result Dumped Fault} (Ok (signature, bytes)) (Ok found) = k in
          let same : ◌≡◌ {A = Dumped} found (signature, bytes) = cc in
          (bytes, refl, f, same)
      | false ↦ λ f k. let l : ◌≡◌ {A = Result Dumped Fault} (Err (6103, n)) (Ok found) = k in absurd cc
    ] refl e

-- the lines at the front, which are neither blank nor headers, and what follows them
record Front (lines : List (List ℕ)) : Type 0 where
  inner : List (List ℕ)
  rest : List (List ℕ)
  whole : lines ≡ inner ++ rest
  inside : AllInner inner
  ends : EndsTable rest
  cut : (n : ℕ) → (cut_of (numbered_from n lines)).0 ≡ numbered_from n inner
  dump : (n : ℕ) (tables : List Dumped) → all_of (cut_of (numbered_from n lines)).1 ≡ Ok tables → IsDump rest tables
  fault : (n : ℕ) (x : Fault) → all_of (cut_of (numbered_from n lines)).1 ≡ Err x → HasFault (n + length inner) rest x

-- lines that do not spell bytes go wrong
wrong_back : (n : ℕ) (before : List ℕ) (lines rest : List (List ℕ)) (x : Fault) → AllInner lines → bytes_of before (numbered_from n lines) ≡ Err x → GoWrong n before (lines ++ rest) x
wrong_back n before [] rest x inner e = absurd cc
wrong_back n before (line ∷ lines) rest x inner e =
    elim (row_of line) as (λ r. row_of line ≡ r → bytes_with n before r (λ all. bytes_of all (numbered_from (n + 1) lines)) ≡ Err x → GoWrong n before (line ∷ lines ++ rest) x) [
      | None ↦ λ f h.
          let same : ◌≡◌ {A = Fault} (6101, n) x = cc in
          subst (GoWrong n before (line ∷ lines ++ rest)) same (unformed n before line (lines ++ rest) inner.0 f)
      | Some found ↦ λ f h.
          elim (found.0 == length before) as (λ b. (found.0 == length before) ≡ b → ◌≡◌ {A = Result (List ℕ) Fault} (cond b (bytes_of (before ++ found.1) (numbered_from (n + 1) lines)) (Err (6102, n))) (Err x) → GoWrong n before (line ∷ lines ++ rest) x) [
            | true ↦ λ g k.
                let here : found.0 ≡ length before = equal_from_test found.0 (length before) g in
                let is : row_of line ≡ Some (length before, found.1) = f ∙ ap (λ (offset : ℕ). Some (offset, found.1)) here in
                behind n before found.1 line (lines ++ rest) x inner.0 is (wrong_back (n + 1) (before ++ found.1) lines rest x inner.1 k)
            | false ↦ λ g k.
                let l : ◌≡◌ {A = Result (List ℕ) Fault} (Err (6102, n)) (Err x) = k in
                let same : ◌≡◌ {A = Fault} (6102, n) x = cc in
                let differs : found.0 ≡ length before → ⊥ = λ alike. grind (arith, common_steps) in
                subst (GoWrong n before (line ∷ lines ++ rest)) same (displaced n found.0 before found.1 line (lines ++ rest) inner.0 f differs)
          ] refl h
    ] refl e

-- the fault of a table, or of what follows it
data FaultParts (n : ℕ) (signature : List ℕ) (rows : List Numbered) (others : Result (List Dumped) Fault) (x : Fault) : Type 0 where
  of_bytes : bytes_of [] rows ≡ Err x → FaultParts n signature rows others x
  of_length : (bytes : List ℕ) → bytes_of [] rows ≡ Ok bytes → tells_length signature bytes ≡ false → (6103, n) ≡ x → FaultParts n signature rows others x
  of_others : (bytes : List ℕ) → bytes_of [] rows ≡ Ok bytes → tells_length signature bytes ≡ true → others ≡ Err x → FaultParts n signature rows others x

fault_parts : (n : ℕ) (signature : List ℕ) (rows : List Numbered) (others : Result (List Dumped) Fault) (x : Fault) → then_all (table_of n signature (bytes_of [] rows)) others ≡ Err x → FaultParts n signature rows others x
fault_parts n signature rows others x e =
    elim (bytes_of [] rows) as (λ r. bytes_of [] rows ≡ r → then_all (table_of n signature r) others ≡ Err x → FaultParts n signature rows others x) [
      | Err fault ↦ λ f h. let same : fault ≡ x = cc in of_bytes (f ∙ ap Err same)
      | Ok bytes ↦ λ f h.
          elim (tells_length signature bytes) as (λ b. tells_length signature bytes ≡ b → then_all (cond b (Ok (signature, bytes)) (Err (6103, n))) others ≡ Err x → FaultParts n signature rows others x) [
            | true ↦ λ g k. of_others bytes f g (others_err (signature, bytes) others x k)
            | false ↦ λ g k. let l : ◌≡◌ {A = Result (List Dumped) Fault} (Err (6103, n)) (Err x) = k in of_length bytes f g cc
          ] refl h
    ] refl e
  where
    others_err : (first : Dumped) (others : Result (List Dumped) Fault) (x : Fault) → then_all (Ok first) others ≡ Err x → others ≡ Err x
    others_err first (Err fault) x h = let same : fault ≡ x = cc in ap Err same
    others_err first (Ok tables) x h = absurd cc

-- with no line at the front, all of the lines have the fault
whole_fault : (inner rest lines : List (List ℕ)) (cut : Cut) (n : ℕ) (x : Fault) → lines ≡ inner ++ rest → AllInner inner → cut.0 ≡ numbered_from n inner → (all_of cut.1 ≡ Err x → HasFault (n + length inner) rest x) → all_of (all_blocks cut) ≡ Err x → HasFault n lines x
whole_fault [] rest lines cut n x whole inside e fault h =
    let P : List (List ℕ) → Type 0 = λ ls. HasFault n ls x in
    let here : HasFault n rest x = rw add-zero at (fault (rest_faulty cut x e h)) in
    subst P (sym whole) here
whole_fault (line ∷ inner) rest lines cut n x whole inside e fault h =
    let P : List Numbered → Type 0 = λ rows. all_of (strays rows ++ cut.1) ≡ Err x in
    let k : ◌≡◌ {A = Result (List Dumped) Fault} (Err (6100, n)) (Err x) = subst P e h in
    let same : ◌≡◌ {A = Fault} (6100, n) x = cc in
    let Q : List (List ℕ) → Type 0 = λ ls. HasFault n ls x in
    subst Q (sym whole) (subst (HasFault n (line ∷ inner ++ rest)) same (stray n line (inner ++ rest) inside.0))

header_fault : (line signature : List ℕ) (inner rest lines : List (List ℕ)) (cut : Cut) (n : ℕ) (x : Fault) → has_blanks_alone line ≡ false → signature_of line ≡ Some signature → lines ≡ inner ++ rest → AllInner inner → EndsTable rest → cut.0 ≡ numbered_from (n + 1) inner
    → (all_of cut.1 ≡ Err x → HasFault (n + 1 + length inner) rest x) → all_of (Headed n signature cut.0 ∷ cut.1) ≡ Err x → HasFault n (line ∷ lines) x
header_fault line signature inner rest lines cut n x e f whole inside ends front fault h =
    subst (λ (ls : List (List ℕ)). HasFault n (line ∷ ls) x) (sym whole) (by (fault_parts n signature cut.0 (all_of cut.1) x h))
  where
    as_inner : {r : Result (List ℕ) Fault} → bytes_of [] cut.0 ≡ r → bytes_of [] (numbered_from (n + 1) inner) ≡ r
    as_inner {r} read = subst (λ (rows : List Numbered). bytes_of [] rows ≡ r) front read

    by : FaultParts n signature cut.0 (all_of cut.1) x → HasFault n (line ∷ inner ++ rest) x
    by (of_bytes read) = in_rows n line signature (inner ++ rest) x e f (wrong_back (n + 1) [] inner rest x inside (as_inner read))
    by (of_length bytes read tells is) = subst (HasFault n (line ∷ inner ++ rest)) is (untold n line signature bytes inner rest e f (spells_back (n + 1) [] bytes inner inside (as_inner read)) tells ends)
    by (of_others bytes read tells others) = behind_table n line signature bytes inner rest x e f (spells_back (n + 1) [] bytes inner inside (as_inner read)) tells ends (fault others)

-- with no line at the front, all of the lines are a dump
whole_dump : (inner rest lines : List (List ℕ)) (cut : Cut) (n : ℕ) (tables : List Dumped) → lines ≡ inner ++ rest → cut.0 ≡ numbered_from n inner → (all_of cut.1 ≡ Ok tables → IsDump rest tables) → all_of (all_blocks cut) ≡ Ok tables → IsDump lines tables
whole_dump [] rest lines cut n tables whole e dump h =
    let P : List (List ℕ) → Type 0 = λ ls. IsDump ls tables in
    subst P (sym whole) (dump (rest_read cut tables e h))
whole_dump (line ∷ inner) rest lines cut n tables whole e dump h =
    let P : List Numbered → Type 0 = λ rows. all_of (strays rows ++ cut.1) ≡ Ok tables in
    let k : ◌≡◌ {A = Result (List Dumped) Fault} (Err (6100, n)) (Ok tables) = subst P e h in
    absurd cc

header_dump : (line signature : List ℕ) (inner rest lines : List (List ℕ)) (cut : Cut) (n : ℕ) (tables : List Dumped) → has_blanks_alone line ≡ false → signature_of line ≡ Some signature → lines ≡ inner ++ rest → AllInner inner → EndsTable rest → cut.0 ≡ numbered_from (n + 1) inner
    → ((others : List Dumped) → all_of cut.1 ≡ Ok others → IsDump rest others) → all_of (Headed n signature cut.0 ∷ cut.1) ≡ Ok tables → IsDump (line ∷ lines) tables
header_dump line signature inner rest lines cut n tables e f whole inside ends front dump h =
    let parts = first_and_rest (table_of n signature (bytes_of [] cut.0)) (all_of cut.1) tables h in
    let found = table_parts n signature (bytes_of [] cut.0) parts.0 parts.2 in
    let read : bytes_of [] (numbered_from (n + 1) inner) ≡ Ok found.0 = subst (λ (rows : List Numbered). bytes_of [] rows ≡ Ok found.0) front found.1 in
    let all : tables ≡ (signature, found.0) ∷ parts.1 = parts.4 ∙ ap (λ (t : Dumped). t ∷ parts.1) found.3 in
    let lined : line ∷ lines ≡ line ∷ (inner ++ rest) = ap (λ (ls : List (List ℕ)). line ∷ ls) whole in
    let made : IsDump (line ∷ (inner ++ rest)) ((signature, found.0) ∷ parts.1) = table line signature found.0 inner rest parts.1 e f (spells_back (n + 1) [] found.0 inner inside read) found.2 ends (dump parts.1 parts.3) in
    let P : List (List ℕ) → Type 0 = λ ls. IsDump ls tables in
    subst P (sym lined) (subst (IsDump (line ∷ (inner ++ rest))) (sym all) made)

front : (lines : List (List ℕ)) → Front lines
front [] = record { inner = []; rest = []; whole = refl; inside = tt; ends = at_end; cut = λ n. refl; dump = λ n tables e. let same : [] ≡ tables = cc in subst (IsDump []) same nothing; fault = λ n x e. absurd cc }
front (line ∷ lines) =
    let f = front lines in
    elim (has_blanks_alone line) as (λ b. has_blanks_alone line ≡ b → Front (line ∷ lines)) [
      | true ↦ λ e. record {
        inner = [];
        rest = line ∷ lines;
        whole = refl;
        inside = tt;
        ends = at_blank line lines e;
        cut = λ n. rw e refl;
        dump = λ n tables h.
            let after = cut_of (numbered_from (n + 1) lines) in
            blank line lines tables e (whole_dump f.inner f.rest lines after (n + 1) tables f.whole (f.cut (n + 1)) (f.dump (n + 1) tables) (rw e at h));
        fault = λ n x h.
            let after = cut_of (numbered_from (n + 1) lines) in
            let here : HasFault n (line ∷ lines) x = behind_blank n line lines x e (whole_fault f.inner f.rest lines after (n + 1) x f.whole f.inside (f.cut (n + 1)) (f.fault (n + 1) x) (rw e at h)) in
            rw add-zero here;
      }
      | false ↦ λ e.
          elim (signature_of line) as (λ s. signature_of line ≡ s → Front (line ∷ lines)) [
            | None ↦ λ g. record {
              inner = line ∷ f.inner;
              rest = f.rest;
              whole = ap (λ (ls : List (List ℕ)). line ∷ ls) f.whole;
              inside = (record { not_blank = e; no_header = g }, f.inside);
              ends = f.ends;
              cut = λ n. rw (e, g) (ap (λ (rows : List Numbered). (n, line) ∷ rows) (f.cut (n + 1)));
              dump = λ n tables h. f.dump (n + 1) tables (rw (e, g) at h);
              fault = λ n x h.
                  let m : n + 1 + length f.inner ≡ n + length (line ∷ f.inner) = omega arith in
                  subst (λ (k : ℕ). HasFault k f.rest x) m (f.fault (n + 1) x (rw (e, g) at h));
            }
            | Some signature ↦ λ g. record {
              inner = [];
              rest = line ∷ lines;
              whole = refl;
              inside = tt;
              ends = at_header line signature lines e g;
              cut = λ n. rw (e, g) refl;
              dump = λ n tables h.
                  let after = cut_of (numbered_from (n + 1) lines) in
                  header_dump line signature f.inner f.rest lines after n tables e g f.whole f.inside f.ends (f.cut (n + 1)) (f.dump (n + 1)) (rw (e, g) at h);
              fault = λ n x h.
                  let after = cut_of (numbered_from (n + 1) lines) in
                  let here : HasFault n (line ∷ lines) x = header_fault line signature f.inner f.rest lines after n x e g f.whole f.inside f.ends (f.cut (n + 1)) (f.fault (n + 1) x) (rw (e, g) at h) in
                  rw add-zero here;
            }
          ] refl
    ] refl

-- a dump has these tables exactly where its lines have the grammar with these tables
pub tables_are_the_grammars : (text : List ℕ) (tables : List Dumped) → (dump_of text ≡ Ok tables) ↔ IsDump (lines_of text) tables
tables_are_the_grammars text tables = (
  λ h.
      let f = front (lines_of text) in
      whole_dump f.inner f.rest (lines_of text) (cut_of (numbered_from 1 (lines_of text))) 1 tables f.whole (f.cut 1) (f.dump 1 tables) h,
  λ dump. dump_read 1 (lines_of text) tables dump,
)

-- and a fault exactly where they have that fault first
pub fault_is_the_grammars : (text : List ℕ) (x : Fault) → (dump_of text ≡ Err x) ↔ HasFault 1 (lines_of text) x
fault_is_the_grammars text x = (
  λ h.
      let f = front (lines_of text) in
      whole_fault f.inner f.rest (lines_of text) (cut_of (numbered_from 1 (lines_of text))) 1 x f.whole f.inside (f.cut 1) (f.fault 1 x) h,
  λ has. fault_read 1 (lines_of text) x has,
)
