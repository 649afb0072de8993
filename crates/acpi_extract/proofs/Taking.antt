-- What one more line does to the answer.
use Rattle.std.proofs.Common.{◌≡◌, ℕ, true, false, cond, List, [], ◌∷◌, Option, Some, None, Result, Ok, Err, refl, sym, ap, subst, IfErr, IfOk, OnOk, OnErr}
use Rattle.acpi_extract.specs.declared.table.Unfinished.{Unfinished}
use Rattle.acpi_extract.specs.declared.dump.Halt.{Halt}
use Rattle.acpi_extract.specs.declared.dump.Halt.TheVariants.{At, Memory}
use Rattle.hex_text.specs.Blanks.{has_blanks_alone}
use Rattle.acpi_extract.specs.Lines.{signature_of}
use Rattle.acpi_extract.specs.Dump.{Dumped, Fault, Numbered, cut_of, cut_at_header, all_blocks, all_of, then_all, table_of, bytes_of}
use Rattle.acpi_extract.specs.Reading.{after, answer_from, closed_then, Halts}

pub blank_taken : (u : Option Unfinished) (n : ℕ) (line : List ℕ) (lines : List Numbered) → has_blanks_alone line ≡ true → answer_from u (cut_of ((n, line) ∷ lines)) ≡ closed_then u (answer_from None (cut_of lines))
blank_taken None n line lines e = ap (λ b. answer_from None (cond b ([], all_blocks (cut_of lines)) (cut_at_header (n, line) (signature_of line) (cut_of lines)))) e
blank_taken (Some t) n line lines e = ap (λ b. answer_from (Some t) (cond b ([], all_blocks (cut_of lines)) (cut_at_header (n, line) (signature_of line) (cut_of lines)))) e

pub header_cut : (u : Option Unfinished) (n : ℕ) (line signature : List ℕ) (lines : List Numbered) → has_blanks_alone line ≡ false → signature_of line ≡ Some signature → answer_from u (cut_of ((n, line) ∷ lines)) ≡ closed_then u (then_all (table_of n signature (bytes_of [] (cut_of lines).0)) (all_of (cut_of lines).1))
header_cut None n line signature lines e f = rw (e, f) refl
header_cut (Some u) n line signature lines e f = rw (e, f) refl

pub halts_after : (halt : Halt) (tables : List Dumped) (answer : Result (List Dumped) Fault) → Halts halt answer → Halts halt (after tables answer)
halts_after (At number line) tables answer h = rw h refl
halts_after Memory tables answer h = tt

pub blank_halts : (halt : Halt) (done : List Dumped) (u : Option Unfinished) (n : ℕ) (line : List ℕ) (lines : List Numbered) → has_blanks_alone line ≡ true → ((rest : Result (List Dumped) Fault) → Halts halt (closed_then u rest)) → Halts halt (after done (answer_from u (cut_of ((n, line) ∷ lines))))
blank_halts halt done u n line lines e h =
    let P : Result (List Dumped) Fault → Type 0 = λ r. Halts halt r in
    halts_after halt done (answer_from u (cut_of ((n, line) ∷ lines))) (subst P (sym (blank_taken u n line lines e)) (h (answer_from None (cut_of lines))))

pub header_halts : (halt : Halt) (done : List Dumped) (u : Option Unfinished) (n : ℕ) (line signature : List ℕ) (lines : List Numbered) → has_blanks_alone line ≡ false → signature_of line ≡ Some signature → ((rest : Result (List Dumped) Fault) → Halts halt (closed_then u rest)) → Halts halt (after done (answer_from u (cut_of ((n, line) ∷ lines))))
header_halts halt done u n line signature lines e f h =
    let P : Result (List Dumped) Fault → Type 0 = λ r. Halts halt r in
    halts_after halt done (answer_from u (cut_of ((n, line) ∷ lines))) (subst P (sym (header_cut u n line signature lines e f)) (h (then_all (table_of n signature (bytes_of [] (cut_of lines).0)) (all_of (cut_of lines).1))))

pub if_err : {T E : Type 0} {P Q : E → Type 0} (r : Result T E) → ((e : E) → P e → Q e) → IfErr r P → IfErr r Q
if_err (Ok x) f h = tt
if_err (Err e) f h = f e h

pub on_ok : {T E : Type 0} {P Q : Type 0} (r : Result T E) → (P → Q) → OnOk r P → OnOk r Q
on_ok (Ok x) f h = f h
on_ok (Err e) f h = tt

pub ended : (done : List Dumped) (u : Option Unfinished) → after done (answer_from u ([], [])) ≡ after done (closed_then u (Ok []))
ended done None = refl
ended done (Some t) = refl

pub if_ok : {T E : Type 0} {P Q : T → Type 0} (r : Result T E) → ((x : T) → P x → Q x) → IfOk r P → IfOk r Q
if_ok (Ok x) f h = f x h
if_ok (Err e) f h = tt

pub halts_along : (halt : Halt) (a b : Result (List Dumped) Fault) → a ≡ b → Halts halt b → Halts halt a
halts_along halt a b e h = let P : Result (List Dumped) Fault → Type 0 = λ r. Halts halt r in subst P (sym e) h

pub on_err : {T E : Type 0} {P Q : Type 0} (r : Result T E) → (P → Q) → OnErr r P → OnErr r Q
on_err (Ok x) f h = tt
on_err (Err e) f h = f h
