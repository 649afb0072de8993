-- What a list of boxed outputs holds after a call.
use Rattle.std.specs.Prelude.{◌≡◌, ℕ, Bool, true, false, List, [], ◌∷◌, ◌++◌, map, cond, ⊤, OnOk, Result, Ok, Err}
use Rattle.std.specs.List.{filter, All}
use Rattle.std.specs.declared.option.Option.{Option}
use Rattle.std.specs.Option.{ForSome}
use Rattle.iasl_ports.specs.Gained.{Named}
use Rattle.iasl_ports.specs.Delivery.{Answer, due_of}
use Rattle.iasl_ports.specs.declared.delivery.Stop.{Stop}
use Rattle.iasl_messages.specs.declared.place.Piece.{Piece}
use Rattle.iasl_backends.specs.declared.asked.Asked.{Asked as Kinds}
use Rattle.iasl_backends.specs.declared.backend.Kind.{Kind}
use Rattle.iasl_backends.specs.declared.backend.Kind.TheVariants.{RawAml, CHex, Listing, Template}
use Rattle.iasl_backends.specs.Asked.{is_asked, has_kind}
use Rattle.iasl_backends.specs.Each.{Each}
use Rattle.iasl_backends.specs.Rendering.{rendering}
use Rattle.iasl_options.specs.Task.{Task, Compiles, Generates, Templates, generated_settings}
use Rattle.table_outputs.specs.declared.decision.OutputNames.{OutputNames}
use Rattle.table_outputs.specs.declared.decision.Decision.{Decision}
use Rattle.table_outputs.specs.declared.decision.Decision.TheVariants.{Ends, Makes}
use Rattle.table_outputs.specs.declared.outputs.Rendered.{Rendered}
use Rattle.table_outputs.specs.declared.outputs.Rendered.TheVariants.{Ended, Made}
use Rattle.table_outputs.specs.Decision.{kinds_in, kinds_of, template_kinds}

-- the kinds that words ask for; the table alone where they are not good
abbrev pub kinds_by : Result Task ℕ → Kinds
kinds_by (Ok (Compiles asked)) = kinds_in asked
kinds_by (Ok (Generates count)) = kinds_in generated_settings
kinds_by (Ok (Templates table)) = template_kinds
kinds_by (Err word) = record { template = false; c_text = false; listing = false }

-- the list holds exactly the boxes of the kinds that are asked for, in their old order
abbrev pub HoldsAsked : {X : Type 0} → (X → Kind) → Kinds → List X → List X → Type 0
HoldsAsked kind_of kinds old new = Each (λ b c. kind_of c ≡ kind_of b) (filter (λ b. is_asked kinds (kind_of b)) old) new

-- the outputs that are asked for, in the order of their files
abbrev pub order_of : Kinds → List Kind
order_of kinds = cond kinds.template (Template ∷ []) (RawAml ∷ []) ++ cond kinds.c_text (CHex ∷ []) []
    ++ cond kinds.listing (Listing ∷ []) []

-- a list ends in another
abbrev pub EndsIn : {A : Type 0} → List A → List A → Type 0
EndsIn {A} all last = (before : List A) × (all ≡ before ++ last)

-- The boxes are finished over one list of pieces, which are those of the last table, and the texts of their kinds are
-- the bytes of the last files that were due, which are its files.
pub record AreRendered {X : Type 0} (pieces_of : X → List Piece) (is_finished : X → Bool) (kinds : Kinds) (boxes : List X)
    (answer : List Named → Option Answer) (due_pieces : List Named → List Piece) (contents : Option (List Named)) : Type 0 where
  pub pieces : List Piece
  pub are : ForSome contents (λ told. pieces ≡ due_pieces told)
  pub over : All (λ b. pieces_of b ≡ pieces) boxes
  pub finished : All (λ b. is_finished b ≡ true) boxes
  pub texts : ForSome contents
      (λ told. EndsIn (map (λ file. file.1) (due_of (answer told))) (map (λ kind. rendering kind pieces) (order_of kinds)))

-- The boxes hold the texts of outputs: each is finished over the pieces, and there is one of each kind that has a name.
pub record HoldsTexts {X : Type 0} (kind_of : X → Kind) (pieces_of : X → List Piece) (is_finished : X → Bool) (names : OutputNames)
    (pieces : List Piece) (boxes : List X) : Type 0 where
  pub over : All (λ b. pieces_of b ≡ pieces) boxes
  pub finished : All (λ b. is_finished b ≡ true) boxes
  pub there : (kind : Kind) → is_asked (kinds_of names) kind ≡ true → has_kind kind_of kind boxes ≡ true

-- they do so of the last outputs where any were rendered
abbrev pub HoldsOutputs : {X : Type 0} → (X → Kind) → (X → List Piece) → (X → Bool) → Result Rendered Stop → List X → Type 0
HoldsOutputs kind_of pieces_of is_finished (Ok (Made text earlier names pieces)) boxes =
    HoldsTexts kind_of pieces_of is_finished names pieces boxes
HoldsOutputs kind_of pieces_of is_finished (Ok (Ended due)) boxes = ⊤
HoldsOutputs kind_of pieces_of is_finished (Err stop) boxes = ⊤

-- What making the outputs of a decision does to the boxes: nothing where there are none to make; else those of other kinds are let go,
-- and the others are finished over the last pieces, unless memory is wanted.
abbrev pub ChangesBy : {X : Type 0} → (X → Kind) → (X → List Piece) → (X → Bool) → Result Decision Stop → Result Rendered Stop → List X →
    List X → Type 0
ChangesBy kind_of pieces_of is_finished (Ok (Makes making)) rendered old new =
    HoldsAsked kind_of (kinds_of making.names) old new
    × OnOk rendered (All (λ b. pieces_of b ≡ making.pieces) new × All (λ b. is_finished b ≡ true) new)
ChangesBy kind_of pieces_of is_finished (Ok (Ends due)) rendered old new = new ≡ old
ChangesBy kind_of pieces_of is_finished (Err stop) rendered old new = new ≡ old
