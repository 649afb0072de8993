-- A program with names, regions, fields, aliases, containers, methods and control flow has no errors; its bytes do
-- what it does.
use Rattle.std.proofs.Common.{◌≡◌, ℕ, true, false, List, [], ◌∷◌, ◌++◌, refl, arith}
use Rattle.std.specs.Prelude.{codes}
use Rattle.acpi_values.specs.declared.width.Width.TheVariants.{W64}
use Rattle.acpi_values.specs.declared.operator.IntOp.TheVariants as IntOp
use Rattle.acpi_values.specs.declared.operator.DataOp.TheVariants as DataOp
use Rattle.acpi_values.specs.declared.operator.Plain.TheVariants as Plain
use Rattle.acpi_values.specs.declared.fault.Fault.TheVariants as F
use Rattle.acpi_values.specs.Paths.{NameSeg}
use Rattle.acpi_values.specs.Values as V
use Rattle.acpi_values.specs.Values.{Value, Data}
use Rattle.acpi_state.specs.Objects.{Device, Event, Read, Write}
use Rattle.acpi_state.specs.FieldActs.{OneByte}
use Rattle.acpi_state.specs.Forms.{LocalSlot, ArgSlot}
use Rattle.acpi_state.specs.Outcomes.{Flow, Gives, Normal, Result, Done, Stopped, Faulted}
use Rattle.acpi_state.specs.Sessions.{Report, Request}
use Rattle.asl_tree.specs.declared.path.Path.{Path}
use Rattle.asl_tree.specs.FieldItems.{UnitItem}
use Rattle.asl_tree.specs.Tree.{At, UnitName, Integer, InSlot, Omitted, Use, Call, Apply, Buffer, Package, Return, Name, Alias, Method, Container', Scope, If, Else, While, OperationRegion, Field, CreateField, Trees, no_trees, tree}
use Rattle.asl_meaning.specs.Declarations.{known_of, externals}
use Rattle.asl_meaning.specs.SourceSession.{source_session}
use Rattle.aml_meaning.specs.Encoded.{encoded_terms}
use Rattle.aml_code.specs.Header.{HeaderFields, table_bytes}
use Rattle.aml_meaning.specs.ByteSession.{byte_session, IsFaithful}
use Rattle.aml_meaning.specs.Codes.{code_front}
use Rattle.acpi_names.specs.Errors.{name_errors, type_errors}
use Rattle.named_sessions.specs.Shaped.{AreShaped}
use Rattle.named_sessions.specs.Core.{core_of}
use Rattle.named_sessions.proofs.Main.{is_faithful}

abbrev seg : ℕ → NameSeg
seg letter = letter ∷ 0x5F ∷ 0x5F ∷ 0x5F ∷ []

abbrev one : ℕ → Path
one letter = record { root = false; up = 0; segs = seg letter ∷ [] }

abbrev from_root : List NameSeg → Path
from_root segs = record { root = true; up = 0; segs = segs }

-- which node a term is makes no difference here
abbrev at : At
at = record { id = 0; place = record { file = 0; line = 0; column = 0 } }

abbrev unit : ℕ → UnitName
unit letter = record { at = at; segment = seg letter }

-- Name (X, 5)  OperationRegion (R, SystemIO, 0x80, 4)  Field (R, WordAcc, NoLock, Preserve) {A, 12, B, 8, C, 12}
-- Alias (B, F)  Name (D, Buffer () {1, 2, 3, 4})  CreateByteField (D, 1, E)
-- Device (G) {Name (P, Package () {X})}  Scope (G) {Name (Q, 1)}
-- Method (M, 1) {If (Arg0) {Name (X, 7)} Return (X)}
-- Method (N) {F = 0xA5 Return (E)}
-- Method (W, 1) {Local0 = 0 While (Local0 < Arg0) {Local0++} Return (Local0 + DerefOf (DerefOf (\G.P [0])))}
-- Method (S, 1) {If (Arg0) {Return (1)} Else {Return (W (1))}}
abbrev program : Trees
program =
    (tree (Name at (one 0x58) (Integer 5)) (tree (OperationRegion at (one 0x52) 1 (tree (Integer 128) (tree (Integer 4) no_trees)))
    (tree (Field at at (one 0x52) 2 (UnitItem (unit 0x41) 12 ∷ UnitItem (unit 0x42) 8 ∷ UnitItem (unit 0x43) 12 ∷ []))
    (tree (Alias at (one 0x42) at (one 0x46)) (tree (Name at (one 0x44) (Buffer (Integer 4) (1 ∷ 2 ∷ 3 ∷ 4 ∷ [])))
    (tree (CreateField OneByte (tree (Use at (one 0x44)) (tree (Integer 1) no_trees)) at (one 0x45))
    (tree (Container' Device at (one 0x47) (tree (Name at (one 0x50) (Package 1 (tree (Use at (one 0x58)) no_trees))) no_trees))
    (tree (Scope at at (one 0x47) (tree (Name at (one 0x51) (Integer 1)) no_trees))
    (tree (Method at (one 0x4D) 1 (tree (If (InSlot (ArgSlot 0)) (tree (Name at (one 0x58) (Integer 7)) no_trees))
    (tree (Return (Use at (one 0x58))) no_trees))) (tree (Method at (one 0x4E) 0
    (tree (Apply (Plain.Data DataOp.Store) (tree (Integer 165) (tree (Use at (one 0x46)) no_trees)) no_trees)
    (tree (Return (Use at (one 0x45))) no_trees))) (tree (Method at (one 0x57) 1
    (tree (Apply (Plain.Data DataOp.Store) (tree (Integer 0) (tree (InSlot (LocalSlot 0)) no_trees)) no_trees)
    (tree (While (Apply (Plain.Number IntOp.LLess) (tree (InSlot (LocalSlot 0)) (tree (InSlot (ArgSlot 0)) no_trees)) no_trees)
    (tree (Apply (Plain.Data DataOp.Increment) (tree (InSlot (LocalSlot 0)) no_trees) no_trees) no_trees))
    (tree (Return (Apply (Plain.Number IntOp.Add) (tree (InSlot (LocalSlot 0))
    (tree (Apply (Plain.Data DataOp.DerefOf) (tree (Apply (Plain.Data DataOp.DerefOf)
    (tree (Apply (Plain.Data DataOp.Index) (tree (Use at (from_root (seg 0x47 ∷ seg 0x50 ∷ []))) (tree (Integer 0) no_trees))
    (tree Omitted no_trees)) no_trees) no_trees) no_trees) no_trees) no_trees)) (tree Omitted no_trees))) no_trees))))
    (tree (Method at (one 0x53) 1 (tree (If (InSlot (ArgSlot 0)) (tree (Return (Integer 1)) no_trees))
    (tree (Else (tree (Return (Call at (one 0x57) (tree (Integer 1) no_trees))) no_trees)) no_trees))) no_trees))))))))))))

no_errors : name_errors program ++ type_errors program ≡ []
no_errors = refl

is_shaped : AreShaped program
is_shaped = (
  ((record { segments = (refl, tt); count = omega arith; rooted = λ root. refl }), refl, tt),
  tt,
  (
    ((record { segments = (refl, tt); count = omega arith; rooted = λ root. refl }), omega arith, ((refl, tt), ((refl, tt), tt))),
    tt,
    (
      ((record { is_name = (record { segments = (refl, tt); count = omega arith; rooted = λ root. refl }); start = tt }), omega arith, ((refl, omega arith), ((refl, omega arith), ((refl, omega arith), tt)))),
      tt,
      (
        ((record { is_name = (record { segments = (refl, tt); count = omega arith; rooted = λ root. refl }); start = tt }), (record { segments = (refl, tt); count = omega arith; rooted = λ root. refl })),
        tt,
        (
          ((record { segments = (refl, tt); count = omega arith; rooted = λ root. refl }), refl, (refl, omega arith)),
          tt,
          (
            (((refl, (record { is_name = (record { segments = (refl, tt); count = omega arith; rooted = λ root. refl }); start = tt })), ((refl, tt), tt)), (record { segments = (refl, tt); count = omega arith; rooted = λ root. refl })),
            tt,
            (
              (
                (record { segments = (refl, tt); count = omega arith; rooted = λ root. refl }),
                tt,
                (((record { segments = (refl, tt); count = omega arith; rooted = λ root. refl }), refl, (omega arith, ((record { is_name = (record { segments = (refl, tt); count = omega arith; rooted = λ root. refl }); start = tt }), tt))), tt, tt),
              ),
              tt,
              (
                ((record { is_name = (record { segments = (refl, tt); count = omega arith; rooted = λ root. refl }); start = tt }), (((record { segments = (refl, tt); count = omega arith; rooted = λ root. refl }), refl, tt), tt, tt)),
                tt,
                (
                  (
                    (record { segments = (refl, tt); count = omega arith; rooted = λ root. refl }),
                    omega arith,
                    (
                      (refl, omega arith, (((record { segments = (refl, tt); count = omega arith; rooted = λ root. refl }), refl, tt), tt, tt)),
                      tt,
                      ((refl, (record { is_name = (record { segments = (refl, tt); count = omega arith; rooted = λ root. refl }); start = tt })), tt, tt),
                    ),
                  ),
                  tt,
                  (
                    (
                      (record { segments = (refl, tt); count = omega arith; rooted = λ root. refl }),
                      omega arith,
                      (
                        (tt, ((refl, tt), ((record { is_name = (record { segments = (refl, tt); count = omega arith; rooted = λ root. refl }); start = tt }), tt)), refl, tt),
                        tt,
                        ((refl, (record { is_name = (record { segments = (refl, tt); count = omega arith; rooted = λ root. refl }); start = tt })), tt, tt),
                      ),
                    ),
                    tt,
                    (
                      (
                        (record { segments = (refl, tt); count = omega arith; rooted = λ root. refl }),
                        omega arith,
                        (
                          (tt, ((refl, tt), (omega arith, tt)), refl, tt),
                          tt,
                          (
                            (refl, (tt, ((refl, omega arith), ((refl, omega arith), tt)), refl, tt), ((tt, (omega arith, tt), refl, tt), tt, tt)),
                            tt,
                            (
                              (
                                refl,
                                (
                                  tt,
                                  (
                                    (refl, omega arith),
                                    (
                                      (refl, (tt, ((refl, (tt, ((refl, (tt, ((refl, (record { is_name = (record { segments = (refl, (refl, tt)); count = omega arith; rooted = λ root. refl }); start = tt })), ((refl, tt), tt)), refl, (tt, tt))), tt), refl, tt)), tt), refl, tt)),
                                      tt,
                                    ),
                                  ),
                                  refl,
                                  (tt, tt),
                                ),
                              ),
                              tt,
                              tt,
                            ),
                          ),
                        ),
                      ),
                      tt,
                      (
                        (
                          (record { segments = (refl, tt); count = omega arith; rooted = λ root. refl }),
                          omega arith,
                          ((refl, omega arith, ((refl, tt), tt, tt)), tt, (((refl, ((record { is_name = (record { segments = (refl, tt); count = omega arith; rooted = λ root. refl }); start = tt }), (refl, tt, tt))), tt, tt), tt, tt)),
                        ),
                        tt,
                        tt,
                      ),
                    ),
                  ),
                ),
              ),
            ),
          ),
        ),
      ),
    ),
  ),
)

abbrev fields : HeaderFields
fields = record { signature = codes "SSDT"; revision = 2; oem_id = codes "OEMX00"; table_id = codes "TABLE001"; oem_revision = 1 }

abbrev table : List ℕ
table = table_bytes fields (encoded_terms W64 true (core_of false program))

pub faithful_table : IsFaithful W64 (known_of program) (externals program) program table
faithful_table = is_faithful false (λ path. false) W64 true program table is_shaped refl refl refl (omega arith) refl

abbrev number : ℕ → Value
number n = Data (V.Integer n)

abbrev calls : List Request
calls =
    record { path = seg 0x4D ∷ []; args = number 0 ∷ [] }
    ∷ record { path = seg 0x4D ∷ []; args = number 1 ∷ [] }
    ∷ record { path = seg 0x4E ∷ []; args = [] }
    ∷ record { path = seg 0x57 ∷ []; args = number 2 ∷ [] }
    ∷ record { path = seg 0x53 ∷ []; args = number 0 ∷ [] }
    ∷ []

abbrev answers : List Value
answers = number 0x1234 ∷ number 0xABCD ∷ []

abbrev results : List Report → List (Result Flow)
results [] = []
results (r ∷ rs) = r.result ∷ results rs

abbrev last_events : List Report → List Event
last_events [] = []
last_events (r ∷ []) = r.events
last_events (r ∷ s ∷ rs) = last_events (s ∷ rs)

abbrev gives : ℕ → Result Flow
gives n = Done (Gives (number n))

seen : results (source_session W64 (known_of program) program [] 3 answers calls)
    ≡ Done (Normal false) ∷ Stopped (Faulted F.NotFound) ∷ gives 7 ∷ gives 2 ∷ gives 7 ∷ gives 6 ∷ []
seen = refl

told : last_events (source_session W64 (known_of program) program [] 3 answers calls)
    ≡ Read (seg 0x52 ∷ []) 1 0x80 2 ∷ Write (seg 0x52 ∷ []) 1 0x80 2 0x5234 ∷ Read (seg 0x52 ∷ []) 1 0x82 2 ∷ Write (seg 0x52 ∷ []) 1 0x82 2 0xABCA ∷ []
told = refl

same : byte_session table [] 3 answers calls ≡ source_session W64 (known_of program) program [] 3 answers calls
unfolding code_front
same = refl
