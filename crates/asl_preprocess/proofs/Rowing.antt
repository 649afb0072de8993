-- What the code's row comes to, in terms of a sound state.
use Rattle.std.proofs.Common.{◌≡◌, ℕ, suc, ◌-◌, ◌<◌, ◌≤◌, Bool, true, false, cond, List, [], ◌∷◌, ◌++◌, length, Option, Some, Result, Ok, Err, refl, ap, sym, subst, ◌∙◌, arith}
use Rattle.std.specs.Result.{IsOkAnd}
use Rattle.std.specs.List.{list_any}
use Rattle.std.specs.Option.{ForSome}
use Rattle.std.proofs.lemmas.List.{length-append}
use Rattle.iasl_ports.specs.Gained.{Named}
use Rattle.iasl_ports.specs.Fetched.{same_name}
use Rattle.iasl_messages.specs.declared.place.Place.{Place}
use Rattle.asl_directives.specs.declared.branches.Branch.{Branch}
use Rattle.asl_directives.specs.Forms.{IncludedFile}
use Rattle.asl_preprocess.specs.declared.work.Work.{Work}
use Rattle.asl_preprocess.specs.declared.directives.Wanted.{Wanted}
use Rattle.asl_preprocess.specs.declared.stop.ReadingStop.{ReadingStop}
use Rattle.asl_preprocess.specs.declared.stop.ReadingStop.TheVariants.{At, ReadFault, Memory}
use Rattle.asl_preprocess.specs.Rows.{Row}
use Rattle.asl_preprocess.specs.Search.{SearchResult, Missing, Large, Whole, search, names_for}
use Rattle.asl_preprocess.specs.State.{State, Pass, Outcome, then, with_file, with_files, at, message_at}
use Rattle.asl_preprocess.specs.Lines.{RowEffect, Goes, Asks}
use Rattle.asl_preprocess.specs.Preprocess.{Setting, setting_of, reading_at, of_row, of_file, in_pass, included, read_found, done}
use Rattle.asl_preprocess.specs.Told.{Shows, StopsWith, ShowsGoing, ShowsAsking, asked_for, Refuses}
use Rattle.asl_preprocess.specs.Searching.{SearchStops, SeekStops, RefusesFound}
use Rattle.asl_preprocess.specs.Sound.{IsSound}
use Rattle.asl_preprocess.specs.Reached.{Stands, StandsIn, StopsAt, Reaches, Counts}
use Rattle.asl_preprocess.proofs.Fine.{Fine, fine_row}
use Rattle.asl_preprocess.proofs.Passing.{one_of}

-- the same in other words
pub reaches_by : {X : Type 0} (r : Result (Unit {0}) ReadingStop) (contents contents' : Option (List Named)) (files : List (List ℕ)) (Is Is' : X → Type 0) (f f' : List Named → Outcome X)
    → contents' ≡ contents → ((x : X) → Is' x → Is x) → ((told : List Named) → contents ≡ Some told → f told ≡ f' told) → Reaches r contents' files Is' f' → Reaches r contents files Is f
reaches_by (Ok u) contents contents' files Is Is' f f' e weak same h = (h.0, weak h.0 h.1, λ told k. same told k ∙ h.2 told (e ∙ k))
reaches_by (Err (At message)) contents contents' files Is Is' f f' e weak same h = (h.0, λ told k. same told k ∙ h.1 told (e ∙ k))
reaches_by (Err ReadFault) contents contents' files Is Is' f f' e weak same h = tt
reaches_by (Err Memory) contents contents' files Is Is' f f' e weak same h = tt

pub stops_by : {X : Type 0} (stop : ReadingStop) (contents contents' : Option (List Named)) (files : List (List ℕ)) (f : List Named → Outcome X) → contents' ≡ contents → StopsAt stop contents' files f → StopsAt stop contents files f
stops_by (At message) contents contents' files f e h = (h.0, λ told k. h.1 told (e ∙ k))
stops_by ReadFault contents contents' files f e h = tt
stops_by Memory contents contents' files f e h = tt

-- a state with one more file
pub more_files : (name : List ℕ) (files : List (List ℕ)) → length files ≤ length (with_file name files)
more_files name files = by_test (list_any (same_name name) files)
  where
    by_test : (b : Bool) → length files ≤ length (cond b files (files ++ name ∷ []))
    by_test true = omega arith
    by_test false = omega (arith, length-append files (name ∷ []))

pub sound_more : (state : State) (files : List (List ℕ)) → length state.files ≤ length files → IsSound state → IsSound (with_files state files)
sound_more state files h sound = record {
  lines = λ i e lt. ((sound.lines i e lt).0, omega (arith, (sound.lines i e lt).1, h));
  notes = λ i e lt. omega (arith, sound.notes i e lt, h);
}

module _ (contents : Option (List Named)) (directories : List (List ℕ)) (enabled : Bool) (levels : ℕ) (own : List ℕ) where
  abbrev setting : List Named → Setting
  setting told = setting_of told directories enabled

  module _ (file : ℕ) (state : State) (branches : List Branch) (row : Row) (sound : IsSound state) (known : file < length state.files) where
    abbrev pass : Pass
    pass = record { state = state; branches = branches }

    abbrev outcome : Outcome RowEffect
    outcome = of_row enabled file row pass

    abbrev one : List Named → Outcome Pass
    one told = one_of directories enabled levels file own told row pass

    -- nothing is asked for
    pub row_goes : (work' : Work) (branches' : List Branch) (files : List (List ℕ)) → IsOkAnd outcome (ShowsGoing work' branches') → Reaches (Ok tt) contents files (λ later. StandsIn work' branches' later (length state.files)) one
    row_goes work' branches' files h = by_outcome outcome refl (fine_row file pass sound known enabled row) h
      where
        by_outcome : (o : Outcome RowEffect) → outcome ≡ o → Fine file state o → IsOkAnd o (ShowsGoing work' branches') → Reaches (Ok tt) contents files (λ later. StandsIn work' branches' later (length state.files)) one
        by_outcome (Ok (Goes later)) e fine h = (
          later,
          record { stands = record { shows = h.0; sound = fine.0; grows = omega (arith, ap length fine.1) }; branches_are = h.1 },
          λ told k. ap (λ o. then o (done (reading_at (setting told) levels) (setting told) own)) e,
        )
        by_outcome (Ok (Asks asked place later)) e fine h = absurd h
        by_outcome (Err stop) e fine h = absurd h

    -- a stop
    pub row_stops : (stop : ReadingStop) (files : List (List ℕ)) → StopsWith stop files outcome → StopsAt stop contents files one
    row_stops (At message) files h =
        let F : Outcome RowEffect → Type 0 = λ o. Fine file state o in
        let fine : Fine file state (Err (message, files)) = subst F h (fine_row file pass sound known enabled row) in
        (omega (arith, fine.0, ap length fine.1), λ told k. ap (λ o. then o (done (reading_at (setting told) levels) (setting told) own)) h)
    row_stops ReadFault files h = absurd h
    row_stops Memory files h = tt

    -- a file is asked for, in this state
    pub record Asking (work' : Work) (branches' : List Branch) (wanted : Wanted) : Type 0 where
      pub now : State
      pub shows : Shows work' now
      pub is_sound : IsSound now
      pub within : wanted.place.file < length now.files
      pub next : (r : Result (Unit {0}) ReadingStop) (files : List (List ℕ)) (work2 : Work)
          → Reaches r contents files (λ later. Stands work2 later (length now.files)) (λ told. included (reading_at (setting told) levels) (setting told) own (asked_for wanted) wanted.place now)
          → Reaches r contents files (λ later. StandsIn work2 branches' later (length state.files)) one

    pub row_asks : (work' : Work) (branches' : List Branch) (wanted : Wanted) → IsOkAnd outcome (ShowsAsking wanted work' branches') → Asking work' branches' wanted
    row_asks work' branches' wanted h = by_outcome outcome refl (fine_row file pass sound known enabled row) h
      where
        by_outcome : (o : Outcome RowEffect) → outcome ≡ o → Fine file state o → IsOkAnd o (ShowsAsking wanted work' branches') → Asking work' branches' wanted
        by_outcome (Ok (Goes later)) e fine h = absurd h
        by_outcome (Err stop) e fine h = absurd h
        by_outcome (Ok (Asks asked place later)) e fine h = record {
          now = later.state;
          shows = h.2;
          is_sound = fine.1;
          within = omega (arith, ap (λ (p : Place). p.file) h.1, fine.0, ap length fine.2, known);
          next = go;
        }
          where
            same : (told : List Named) → one told ≡ in_pass later (included (reading_at (setting told) levels) (setting told) own (asked_for wanted) wanted.place later.state)
            same told =
                ap (λ o. then o (done (reading_at (setting told) levels) (setting told) own)) e
                ∙ ap (λ (a : IncludedFile). in_pass later (included (reading_at (setting told) levels) (setting told) own a place later.state)) (sym h.0)
                ∙ ap (λ (p : Place). in_pass later (included (reading_at (setting told) levels) (setting told) own (asked_for wanted) p later.state)) (sym h.1)

            go : (r : Result (Unit {0}) ReadingStop) (files : List (List ℕ)) (work2 : Work)
                → Reaches r contents files (λ later'. Stands work2 later' (length later.state.files)) (λ told. included (reading_at (setting told) levels) (setting told) own (asked_for wanted) wanted.place later.state)
                → Reaches r contents files (λ later'. StandsIn work2 branches' later' (length state.files)) one
            go (Ok u) files work2 g = (
              record { state = g.0; branches = later.branches },
              record { stands = record { shows = g.1.shows; sound = g.1.sound; grows = omega (arith, g.1.grows, ap length fine.2) }; branches_are = h.3 },
              λ told k. same told ∙ ap (in_pass later) (g.2 told k),
            )
            go (Err (At message)) files work2 g = (g.0, λ told k. same told ∙ ap (in_pass later) (g.1 told k))
            go (Err ReadFault) files work2 g = tt
            go (Err Memory) files work2 g = tt

  module _ (state : State) (wanted : Wanted) (some : 0 < levels) where
    -- a file that is not too deep is looked for
    abbrev looked : List Named → Outcome State
    looked told = read_found (of_file (setting told) (levels - 1)) (asked_for wanted) wanted.place state (search told (names_for directories own (asked_for wanted)))

    looks : (told : List Named) → included (reading_at (setting told) levels) (setting told) own (asked_for wanted) wanted.place state ≡ looked told
    looks told =
        let e : levels ≡ suc (levels - 1) = omega arith in
        ap (λ n. included (reading_at (setting told) n) (setting told) own (asked_for wanted) wanted.place state) e

    pub seek_stops : (stop : ReadingStop) (old new : List (List ℕ)) → old ≡ state.files → wanted.place.file < length state.files
        → SeekStops stop wanted old new contents (λ told. search told (names_for directories own (asked_for wanted)))
        → StopsAt stop contents new (λ told. included (reading_at (setting told) levels) (setting told) own (asked_for wanted) wanted.place state)
    seek_stops (At message) old new f known h =
        let same : new ≡ state.files = h.1 ∙ f in
        (omega (arith, h.0, ap length same, known), λ told k. looks told ∙ by_found told (search told (names_for directories own (asked_for wanted))) (h.2 told k) ∙ ap (λ names. Err (message, names)) (sym same))
      where
        by_found : (told : List Named) (found : SearchResult) → RefusesFound message wanted found → read_found (of_file (setting told) (levels - 1)) (asked_for wanted) wanted.place state found ≡ Err (message, state.files)
        by_found told Missing h = ap (λ m. Err (m, state.files)) (sym h)
        by_found told Large h = ap (λ m. Err (m, state.files)) (sym h)
        by_found told (Whole name bytes) h = absurd h
    seek_stops ReadFault old new f known h = tt
    seek_stops Memory old new f known h = tt

    pub seek_reads : (name bytes : List ℕ) (told : List Named) → search told (names_for directories own (asked_for wanted)) ≡ Whole name bytes
        → included (reading_at (setting told) levels) (setting told) own (asked_for wanted) wanted.place state ≡ of_file (setting told) (levels - 1) (with_files state (with_file name state.files)) name bytes
    seek_reads name bytes told h = looks told ∙ ap (read_found (of_file (setting told) (levels - 1)) (asked_for wanted) wanted.place state) h

-- a search that ends early, and one that finds no file, or too large a one
pub search_seeks : (stop : ReadingStop) (before now : ℕ) (wanted : Wanted) (old new : List (List ℕ)) (contents : Option (List Named)) (found : List Named → SearchResult) → SearchStops stop before now → SeekStops stop wanted old new contents found
search_seeks (At message) before now wanted old new contents found h = absurd h
search_seeks ReadFault before now wanted old new contents found h = tt
search_seeks Memory before now wanted old new contents found h = tt

pub search_counts : (stop : ReadingStop) (before now : ℕ) → SearchStops stop before now → Counts stop before now
search_counts (At message) before now h = absurd h
search_counts ReadFault before now h = h
search_counts Memory before now h = h

pub refuses_missing : (stop : ReadingStop) (wanted : Wanted) (name : List ℕ) (files : List (List ℕ)) (contents : Option (List Named)) (found : List Named → SearchResult)
    → name ≡ wanted.name → Refuses stop (message_at 6001 wanted.place name) → ForSome contents (λ told. found told ≡ Missing) → SeekStops stop wanted files files contents found
refuses_missing (At message) wanted name files contents found n h f =
    let e : message ≡ message_at 6001 wanted.place wanted.name = h ∙ ap (message_at 6001 wanted.place) n in
    (ap (λ m. m.place.file) e, refl, λ told k. subst (RefusesFound message wanted) (sym (f told k)) e)
refuses_missing ReadFault wanted name files contents found n h f = absurd h
refuses_missing Memory wanted name files contents found n h f = tt

pub refuses_large : (stop : ReadingStop) (wanted : Wanted) (files : List (List ℕ)) (contents : Option (List Named)) (found : List Named → SearchResult)
    → Refuses stop (message_at 6007 (at wanted.place.file wanted.place.line 1) []) → ForSome contents (λ told. found told ≡ Large) → SeekStops stop wanted files files contents found
refuses_large (At message) wanted files contents found h f = (ap (λ m. m.place.file) h, refl, λ told k. subst (RefusesFound message wanted) (sym (f told k)) h)
refuses_large ReadFault wanted files contents found h f = absurd h
refuses_large Memory wanted files contents found h f = tt

-- a row that stops fetches nothing
pub row_counts : {X : Type 0} (stop : ReadingStop) (files : List (List ℕ)) (o : Outcome X) (count : ℕ) → StopsWith stop files o → Counts stop count count
row_counts (At message) files o count h = refl
row_counts ReadFault files o count h = absurd h
row_counts Memory files o count h = refl
