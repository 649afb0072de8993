-- What a call decides, and what becomes of the boxes.
use Rattle.std.proofs.Common.{◌≡◌, ◌⊎◌, ℕ, ◌≤◌, Bool, true, false, List, [], ◌∷◌, ◌++◌, map, cond, Option, Some, None, Result, Ok, Err, refl, sym, ap, ◌∙◌, subst, inl, inr, arith, string_bytes}
use Rattle.std.specs.Prelude.{is_some, IfOk, IsErrOf}
use Rattle.iasl_ports.specs.Gained.{Named}
use Rattle.iasl_ports.specs.Delivery.{Answer, answer_of, due_of, name_and_bytes, IsSettled}
use Rattle.std.proofs.lemmas.List.{map-append}
use Rattle.iasl_ports.specs.declared.delivery.Due.{Due}
use Rattle.iasl_ports.specs.declared.delivery.Stop.{Stop}
use Rattle.iasl_ports.specs.declared.delivery.Stop.TheVariants.{Fault, Memory}
use Rattle.iasl_messages.specs.declared.place.Piece.{Piece}
use Rattle.iasl_backends.specs.declared.backend.Kind.{Kind}
use Rattle.iasl_backends.specs.declared.backend.Kind.TheVariants.{RawAml, CHex, Listing}
use Rattle.iasl_backends.specs.Rendering.{rendering}
use Rattle.iasl_options.specs.Task.{Task, Compiles, Generates, Templates, settings_in}
use Rattle.iasl_runs.specs.Ends.{FilesSeen, OutputsSeen, ConsoleSeen, Decides, Finishes, stop_status}
use Rattle.table_outputs.specs.declared.decision.OutputNames.{OutputNames}
use Rattle.table_outputs.specs.declared.decision.OutputNames.TheVariants.{OfTable, OfTemplate}
use Rattle.table_outputs.specs.declared.decision.Making.{Making}
use Rattle.table_outputs.specs.declared.decision.Decision.{Decision}
use Rattle.table_outputs.specs.declared.decision.Decision.TheVariants.{Ends, Makes}
use Rattle.table_outputs.specs.declared.outputs.Rendered.{Rendered}
use Rattle.table_outputs.specs.declared.outputs.Rendered.TheVariants.{Ended, Made}
use Rattle.table_outputs.specs.Decision.{file_under, files_under, all_files, kinds_of, HaveKinds, SameKinds, IsDecidedFor, Settles, IsRendered, IsDueOf, IsDueOfRendered, only_by}
use Rattle.table_outputs.specs.Boxes.{kinds_by, HoldsAsked, order_of, AreRendered, ChangesBy}

-- an end is settled
end_settled : (r : Result Task ℕ) (due : Due) → IsDecidedFor r (Ends due) → IsSettled due
end_settled (Ok (Compiles asked)) due h = h.0
end_settled (Ok (Generates count)) due h = h.0
end_settled (Ok (Templates table)) due h = absurd h
end_settled (Err word) due h = h.0

as_decided : (stop later which : Stop) → later ≡ stop → IsErrOf {T = Due} (Err later) which → IsErrOf {T = Decision} (Err stop) which
as_decided stop later which m h = let is : later ≡ which = cc in ap (λ s. Err s) (sym m ∙ is)

-- an answer with these parts
abbrev answer_with : List ℕ → List Named → OutputNames → List Piece → Answer
answer_with text earlier names pieces = record { status = 0; text = text; due = earlier ++ files_under names pieces }

-- what is due of a decision whose outputs were made
pub due_then : (decided : Result Decision Stop) (rendered : Result Rendered Stop) (made : Result Due Stop) → IsRendered decided rendered → IsDueOfRendered rendered made → IsDueOf decided made
due_then (Ok (Makes making)) (Ok (Made text earlier names pieces)) (Ok due) r m = (
  m.0
      ∙ ap (λ t. answer_with t (map name_and_bytes earlier.items) names pieces) r.0
      ∙ ap (λ ns. answer_with making.text (map name_and_bytes earlier.items) ns pieces) r.1
      ∙ ap (λ ps. answer_with making.text (map name_and_bytes earlier.items) making.names ps) r.2
      ∙ ap (λ fs. answer_with making.text fs making.names making.pieces) r.3,
  m.1,
)
due_then (Ok (Makes making)) (Ok (Made text earlier names pieces)) (Err stop) r m = m
due_then (Ok (Makes making)) (Ok (Ended due)) made r m = absurd r
due_then (Ok (Makes making)) (Err stop) (Ok due) r m = absurd m
due_then (Ok (Makes making)) (Err stop) (Err later) r m = m ∙ r
due_then (Ok (Ends decided)) (Ok (Ended rendered)) (Ok due) r m = m ∙ r
due_then (Ok (Ends decided)) (Ok (Ended rendered)) (Err stop) r m = absurd m
due_then (Ok (Ends decided)) (Ok (Made text earlier names pieces)) made r m = absurd r
due_then (Ok (Ends decided)) (Err stop) made r m = absurd r
due_then (Err stop) (Ok rendered) made r m = absurd r
due_then (Err stop) (Err later) (Ok due) r m = absurd m
due_then (Err stop) (Err later) (Err last) r m = m ∙ r

-- what a call decides, once its outputs are made
pub decides : (answer : List Named → Option Answer) (pieces : List Named → List Piece) (r : Result Task ℕ) (decided : Result Decision Stop) (made : Result Due Stop) (old new : FilesSeen)
    → Settles answer pieces (IsDecidedFor r) decided old new → IsDueOf decided made → Decides answer made old new
decides answer pieces r (Ok (Makes making)) (Ok due) old new s m = record {
  due = λ told is. s.due told is ∙ ap Some (sym m.0);
  settled = m.1;
  fault = λ h. absurd cc;
  calm = s.calm;
  memory_calm = λ h. absurd cc;
  contents = s.contents;
  later = s.later;
}
decides answer pieces r (Ok (Ends decided)) (Ok due) old new s m = record {
  due = λ told is. s.due told is ∙ ap (λ d. Some (answer_of d)) (sym m);
  settled = subst IsSettled (sym m) (end_settled r decided s.settled);
  fault = λ h. absurd cc;
  calm = s.calm;
  memory_calm = λ h. absurd cc;
  contents = s.contents;
  later = s.later;
}
decides answer pieces r (Ok (Ends decided)) (Err stop) old new s m = absurd m
decides answer pieces r (Ok (Makes making)) (Err stop) old new s m = record {
  due = tt;
  settled = tt;
  fault = λ h. absurd cc;
  calm = tt;
  memory_calm = λ h. s.calm;
  contents = s.contents;
  later = s.later;
}
decides answer pieces r (Err stop) (Ok due) old new s m = absurd m
decides answer pieces r (Err stop) (Err later) old new s m = record {
  due = tt;
  settled = tt;
  fault = λ h. s.fault (as_decided stop later Fault m h);
  calm = tt;
  memory_calm = λ h. s.memory_calm (as_decided stop later Memory m h);
  contents = s.contents;
  later = s.later;
}

-- ---- what becomes of the boxes

kinds_are : (r : Result Task ℕ) (making : Making) → IsDecidedFor r (Makes making) → kinds_of making.names ≡ kinds_by r
kinds_are (Ok (Compiles asked)) making h = h.1
kinds_are (Ok (Generates count)) making h = h.1
kinds_are (Ok (Templates table)) making h = h.0
kinds_are (Err word) making h = absurd h

compiles : (r : Result Task ℕ) (making : Making) → IsDecidedFor r (Makes making) → only_by (settings_in r) ≡ false
compiles (Ok (Compiles asked)) making h = h.0
compiles (Ok (Generates count)) making h = refl
compiles (Ok (Templates table)) making h = refl
compiles (Err word) making h = absurd h

-- the tables of a decision have outputs of the same kinds
pub same_kinds : (r : Result Task ℕ) (decided : Result Decision Stop) → IfOk decided (IsDecidedFor r) → IfOk decided SameKinds
same_kinds (Ok (Compiles asked)) (Ok (Makes making)) h = subst (λ kinds. HaveKinds kinds making.earlier) (sym h.1) h.2
same_kinds (Ok (Generates count)) (Ok (Makes making)) h = subst (λ kinds. HaveKinds kinds making.earlier) (sym h.1) h.2
same_kinds (Ok (Templates table)) (Ok (Makes making)) h = subst (HaveKinds (kinds_of making.names)) (sym h.1) tt
same_kinds (Err word) (Ok (Makes making)) h = absurd h
same_kinds r (Ok (Ends due)) h = tt
same_kinds r (Err stop) h = tt

-- an end of status 0 is one of preprocessed text alone
text_alone : (r : Result Task ℕ) (due : Due) → IsDecidedFor r (Ends due) → due.status ≡ 0 → only_by (settings_in r) ≡ true
text_alone (Ok (Compiles asked)) due h zero = h.1 zero
text_alone (Ok (Generates count)) due h zero = h.1 zero
text_alone (Ok (Templates table)) due h zero = absurd h
text_alone (Err word) due h zero = absurd (h.1 zero)

-- the texts behind the table
texts_with : {S : Type 0} (name_of : S → List ℕ) (c l : Option S) (pieces : List Piece)
    → map (λ (file : Named). file.1) (file_under name_of c (rendering CHex pieces) ++ file_under name_of l (rendering Listing pieces)) ≡ map (λ kind. rendering kind pieces) (cond (is_some c) (CHex ∷ []) [] ++ cond (is_some l) (Listing ∷ []) [])
texts_with name_of None None pieces = refl
texts_with name_of None (Some name) pieces = refl
texts_with name_of (Some name) None pieces = refl
texts_with name_of (Some name) (Some other) pieces = refl

-- those of all outputs, in the order of their files
texts_of : (names : OutputNames) (pieces : List Piece) → map (λ (file : Named). file.1) (files_under names pieces) ≡ map (λ kind. rendering kind pieces) (order_of (kinds_of names))
texts_of (OfTable names) pieces = ap (λ texts. rendering RawAml pieces ∷ texts) (texts_with string_bytes names.c_text names.listing pieces)
texts_of (OfTemplate name) pieces = refl

-- which status comes of a table
of_making : (due : Due) (status : ℕ) {A : Type 0} → due.status ≡ 0 → (status ≡ due.status) ⊎ (((status ≡ 3) × A) ⊎ (status ≡ 4)) → 1 ≤ status → status ≤ 2 → ⊥
of_making due status zero (inl e) some few = omega (arith, zero, e)
of_making due status zero (inr (inl h)) some few = let three : status ≡ 3 = h.0 in omega (arith, three)
of_making due status zero (inr (inr e)) some few = omega (arith, e)

of_zero : (due : Due) (status : ℕ) {A : Type 0} → status ≡ 0 → (status ≡ due.status) ⊎ (((status ≡ 3) × A) ⊎ (status ≡ 4)) → due.status ≡ 0
of_zero due status zero (inl e) = sym e ∙ zero
of_zero due status zero (inr (inl h)) = let three : status ≡ 3 = h.0 in absurd (omega (arith, three, zero))
of_zero due status zero (inr (inr e)) = absurd (omega (arith, e, zero))

stops : (stop : Stop) (status : ℕ) → status ≡ stop_status stop → 3 ≤ status
stops Fault status e = omega (arith, e)
stops Memory status e = omega (arith, e)

module _ {X : Type 0} (kind_of : X → Kind) (pieces_of : X → List Piece) (is_finished : X → Bool) (r : Result Task ℕ) (old new : List X) where
  pub boxes_kept : (decided : Result Decision Stop) (rendered : Result Rendered Stop) → IfOk decided (IsDecidedFor r) → ChangesBy kind_of pieces_of is_finished decided rendered old new → (new ≡ old) ⊎ HoldsAsked kind_of (kinds_by r) old new
  boxes_kept (Ok (Makes making)) rendered h change = inr (subst (λ kinds. HoldsAsked kind_of kinds old new) (kinds_are r making h) change.0)
  boxes_kept (Ok (Ends due)) rendered h change = inl change
  boxes_kept (Err stop) rendered h change = inl change

  pub boxes_of_text : (decided : Result Decision Stop) (rendered : Result Rendered Stop) → IfOk decided (IsDecidedFor r) → ChangesBy kind_of pieces_of is_finished decided rendered old new → only_by (settings_in r) ≡ true → new ≡ old
  boxes_of_text (Ok (Makes making)) rendered h change alone = let no : only_by (settings_in r) ≡ false = compiles r making h in absurd cc
  boxes_of_text (Ok (Ends due)) rendered h change alone = change
  boxes_of_text (Err stop) rendered h change alone = change

  module _ (fault memory : List ℕ) (status : ℕ) (put now_put : OutputsSeen) (told now_told : ConsoleSeen) where
    pub boxes_as_before : (decided : Result Decision Stop) (rendered : Result Rendered Stop) (made : Result Due Stop) → IsDueOf decided made → ChangesBy kind_of pieces_of is_finished decided rendered old new → Finishes fault memory made status put now_put told now_told
        → 1 ≤ status → status ≤ 2 → new ≡ old
    boxes_as_before (Ok (Makes making)) rendered (Ok due) m change f some few = absurd (of_making due status (ap (λ a. a.status) m.0) f.is some few)
    boxes_as_before (Ok (Makes making)) rendered (Err stop) m change f some few = let high = stops stop status f.1.is in absurd (omega arith)
    boxes_as_before (Ok (Ends due)) rendered made m change f some few = change
    boxes_as_before (Err stop) rendered made m change f some few = change

    pub boxes_rendered : (answer : List Named → Option Answer) (pieces : List Named → List Piece) (files now_files : FilesSeen) (decided : Result Decision Stop) (rendered : Result Rendered Stop) (made : Result Due Stop) → Settles answer pieces (IsDecidedFor r) decided files now_files → IsDueOf decided made → IsDueOfRendered rendered made
        → ChangesBy kind_of pieces_of is_finished decided rendered old new → Finishes fault memory made status put now_put told now_told
        → status ≡ 0 → only_by (settings_in r) ≡ false → HoldsAsked kind_of (kinds_by r) old new × AreRendered pieces_of is_finished (kinds_by r) new answer pieces files.contents
    boxes_rendered answer pieces files now_files (Ok (Makes making)) (Ok rendered) (Ok due) s m n change f zero asks =
        let kinds = kinds_are r making s.settled in (
          subst (λ kinds. HoldsAsked kind_of kinds old new) kinds change.0,
          record {
            pieces = making.pieces;
            are = s.made;
            over = change.1.0;
            finished = change.1.1;
            texts = λ all is. (
              map (λ (file : Named). file.1) (all_files making.earlier),
              ap (λ o. map (λ (file : Named). file.1) (due_of o)) (s.due all is)
                  ∙ map-append (λ (file : Named). file.1) (all_files making.earlier) (files_under making.names making.pieces)
                  ∙ ap (λ texts. map (λ (file : Named). file.1) (all_files making.earlier) ++ texts) (texts_of making.names making.pieces)
                  ∙ ap (λ kinds. map (λ (file : Named). file.1) (all_files making.earlier) ++ map (λ kind. rendering kind making.pieces) (order_of kinds)) kinds,
            );
          },
        )
    boxes_rendered answer pieces files now_files (Ok (Makes making)) (Err stop) (Ok due) s m n change f zero asks = absurd n
    boxes_rendered answer pieces files now_files (Ok (Makes making)) rendered (Err stop) s m n change f zero asks = let high = stops stop status f.1.is in absurd (omega (arith, high, zero))
    boxes_rendered answer pieces files now_files (Ok (Ends decided)) rendered (Ok due) s m n change f zero asks =
        let yes : only_by (settings_in r) ≡ true = text_alone r decided s.settled (ap (λ d. d.status) (sym m) ∙ of_zero due status zero f.is) in absurd cc
    boxes_rendered answer pieces files now_files (Ok (Ends decided)) rendered (Err stop) s m n change f zero asks = absurd m
    boxes_rendered answer pieces files now_files (Err stop) rendered (Ok due) s m n change f zero asks = absurd m
    boxes_rendered answer pieces files now_files (Err stop) rendered (Err later) s m n change f zero asks = let high = stops later status f.1.is in absurd (omega (arith, high, zero))
