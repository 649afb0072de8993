-- The parts of a table by the tree of its terms: the header, and for each term of the term lists, in preorder, its
-- encoding up to that of the first term inside it, once its runs are nested; an ElseIf is one part, with the Else and the
-- If that it becomes.
use Rattle.std.specs.Prelude.{◌≡◌, ℕ, ◌+◌, ◌%◌, Bool, List, [], ◌∷◌, ◌++◌, length}
use Rattle.iasl_messages.specs.declared.place.Place.{Place}
use Rattle.iasl_messages.specs.declared.place.Line.{Line}
use Rattle.iasl_messages.specs.declared.place.Piece.{Piece}
use Rattle.acpi_values.specs.declared.width.Width.{Width}
use Rattle.acpi_values.specs.Revisions.{width_of}
use Rattle.asl_tree.specs.declared.program.Block.{Block}
use Rattle.asl_tree.specs.Names.{Known}
use Rattle.asl_tree.specs.View.{trees_of}
use Rattle.term_places.specs.Places.{places_of}
use Rattle.asl_tree.specs.Tree.{Tree, Method, Container', Scope, If, ElseIf, Else, While, Trees, no_trees, tree}
use Rattle.else_runs.specs.Runs.{nested_in, nested_all}
use Rattle.aml_code.specs.Encoding.{package_length_bytes, name_bytes}
use Rattle.aml_code.specs.Header.{HeaderFields, header_length, header_with, checksum_of, fields_of}
use Rattle.aml_meaning.specs.Codes.{Code, MethodCode, ScopeCode, IfCode, ElseCode, WhileCode, code_bytes}
use Rattle.aml_meaning.specs.Encoded.{container_code, container_bytes, encoded, encoded_terms}
use Rattle.aml_sessions.specs.Ready.{AreReady}
use Rattle.aml_sizes.specs.Pieces.{piece_at}

-- a package up to the terms in it, which have so many bytes: its opcode, its length and what stands before them
abbrev pub opening_of : Code → List ℕ → ℕ → List ℕ
opening_of code front size = code_bytes code ++ (package_length_bytes (length front + size) ++ front)

abbrev pub opening : Width → Bool → Code → List ℕ → Trees → List ℕ
opening width short code front body = opening_of code front (length (encoded_terms width short body))

-- an operand, in which no runs stand in a core that is written
abbrev pub operand : Width → Bool → Tree → List ℕ
operand width short term = encoded width short (nested_in term)

-- how many bytes the Else has that stands first
abbrev pub else_length : Width → Bool → Trees → ℕ
else_length width short (tree (Else body) rest) = length (encoded width short (Else body))
else_length width short terms = 0

-- how many bytes the run has that stands first in terms: the ElseIfs and the Else up to any other term
abbrev pub run_length : Width → Bool → Trees → ℕ
run_length width short terms = else_length width short (nested_all terms)

abbrev mutual
  -- the parts of a term before so many bytes of its run
  pub cut : Width → Bool → ℕ → Tree → List (List ℕ)
  cut width short later (Method at name flags body) =
      opening width short MethodCode (name_bytes name ++ (flags % 256) ∷ []) body ∷ cut_all width short body
  cut width short later (Container' kind at name body) =
      opening width short (container_code kind) (name_bytes name ++ container_bytes kind) body ∷ cut_all width short body
  cut width short later (Scope here at name body) = opening width short ScopeCode (name_bytes name) body ∷ cut_all width short body
  cut width short later (If test body) = opening width short IfCode (operand width short test) body ∷ cut_all width short body
  cut width short later (ElseIf test body) =
      let first = opening width short IfCode (operand width short test) body in
      opening_of ElseCode first (length (encoded_terms width short body) + later) ∷ cut_all width short body
  cut width short later (Else body) = opening width short ElseCode [] body ∷ cut_all width short body
  cut width short later (While test body) = opening width short WhileCode (operand width short test) body ∷ cut_all width short body
  cut width short later term = operand width short term ∷ []

  pub cut_all : Width → Bool → Trees → List (List ℕ)
  cut_all width short no_trees = []
  cut_all width short (tree term terms) = cut width short (run_length width short terms) term ++ cut_all width short terms

-- the header of a table with that content
abbrev pub header_of : HeaderFields → List ℕ → List ℕ
header_of fields content =
    let size = header_length + length content in header_with fields size (checksum_of (header_with fields size 0 ++ content))

-- the header, and then the terms of a core
abbrev pub table_parts : HeaderFields → Bool → Trees → List (List ℕ)
table_parts fields short core = let width = width_of fields.revision in header_of fields (encoded_terms width short core) ∷
    cut_all width short core

-- the pieces of parts that stand at these places
abbrev pub pieces_with : List Line → List Place → List (List ℕ) → List Piece
pieces_with lines (place ∷ places) (part ∷ parts) = piece_at lines place part ∷ pieces_with lines places parts
pieces_with lines _ _ = []

-- as many places as parts, and the pieces of these
pub record ArePieces (lines : List Line) (places : List Place) (parts : List (List ℕ)) (pieces : List Piece) : Type 0 where
  pub as_many : length places ≡ length parts
  pub are : pieces ≡ pieces_with lines places parts

-- whatever is known of the block's paths, the pieces of its table where its terms are ready once their runs are nested: the
-- header at the block's place, and the terms at theirs
pub record IsCut (lines : List Line) (block : Block) (short : Bool) (pieces : List Piece) : Type 0 where
  pub cut : (known : Known) → AreReady ⊥ known (nested_all (trees_of block.terms.items)) [] →
      ArePieces lines (block.place ∷ places_of block.terms.items)
      (table_parts (fields_of block) short (trees_of block.terms.items)) pieces
