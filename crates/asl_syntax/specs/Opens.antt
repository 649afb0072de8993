-- What is open, as the code keeps it: the nodes of all lists on one list, of each what is open those from its start on.
use Rattle.std.specs.Prelude.{◌≡◌, ℕ, ◌+◌, ◌≤◌, Bool, true, false, nat_eq, if◌then◌else◌, List, [], ◌∷◌, Option, Some, None, length, take}
use Rattle.std.specs.Prelude.{drop}
use Rattle.asl_syntax.specs.declared.raw.Raw.{Raw}
use Rattle.asl_syntax.specs.declared.subtree.Subtree.{Subtree}
use Rattle.asl_syntax.specs.declared.subtree.Subtrees.{Subtrees}
use Rattle.asl_syntax.specs.declared.frame.Frame.{Frame}
use Rattle.asl_syntax.specs.declared.frame.Frame.TheVariants as f
use Rattle.asl_syntax.specs.declared.open.FrameGroup.{FrameGroup}
use Rattle.asl_syntax.specs.declared.open.FrameKind.{FrameKind}
use Rattle.asl_syntax.specs.declared.open.FrameKind.TheVariants as k
use Rattle.asl_syntax.specs.declared.open.OpenFrame.{OpenFrame}
use Rattle.asl_syntax.specs.Grow.{join, joined, no_subtrees}

-- ---- trees on the list

abbrev pub kept : Bool → List Raw → Option (List Raw)
kept true xs = Some xs
kept false xs = None

-- the trees of a group, where these are the nodes up to its end
abbrev pub trees_of : FrameGroup → List Raw → Subtrees
trees_of g xs = record { raws = kept g.kept (drop g.start xs); levels = g.levels }

-- ---- one tree

abbrev pub first_raw : Option (List Raw) → Option Raw
first_raw (Some (x ∷ xs)) = Some x
first_raw _ = None

-- the one tree of these
abbrev pub tree_of : Subtrees → Subtree
tree_of xs = record { raw = first_raw xs.raws; levels = xs.levels }

abbrev pub are_one : Option (List Raw) → Bool
are_one None = true
are_one (Some (x ∷ [])) = true
are_one _ = false

-- these are one tree
abbrev pub IsOne : Subtrees → Type 0
IsOne xs = are_one xs.raws ≡ true

-- this tree alone
abbrev pub single : Subtree → Subtrees
single e = record { raws = join (Some []) e.raw; levels = e.levels }

-- the same levels, and no nodes
abbrev pub emptied : Option (List Raw) → Option (List Raw)
emptied None = None
emptied (Some xs) = Some []

abbrev pub cleared : Subtrees → Subtrees
cleared xs = record { raws = emptied xs.raws; levels = xs.levels }

-- ---- frames

-- what is open with these trees read of it, around it the frames
abbrev pub frame_on : FrameKind → Subtrees → List Frame → List Frame
frame_on k.Nothing done fs = []
frame_on k.Unit done fs = f.Unit done ∷ fs
frame_on (k.Args p w) done fs = f.Args p w done ∷ fs
frame_on (k.Body p w args) done fs = f.Body p w args done ∷ fs
frame_on k.Bracket done fs = f.Bracket ∷ fs
frame_on (k.Index p) done fs = f.Index p (tree_of done) ∷ fs
frame_on (k.Pending level most p o) done fs = f.Pending level most p o done ∷ fs
frame_on (k.List p) done fs = f.List p done ∷ fs

-- the frames of what is open, where these are the nodes up to its end
abbrev pub frames_of : List OpenFrame → List Raw → List Frame
frames_of [] xs = []
frames_of (o ∷ os) xs = frame_on o.kind (trees_of o.group xs) (frames_of os (take o.group.start xs))

abbrev pub kind_of : List Frame → FrameKind
kind_of [] = k.Nothing
kind_of (f.Unit done ∷ fs) = k.Unit
kind_of (f.Args p w done ∷ fs) = k.Args p w
kind_of (f.Body p w args done ∷ fs) = k.Body p w args
kind_of (f.Bracket ∷ fs) = k.Bracket
kind_of (f.Index p a ∷ fs) = k.Index p
kind_of (f.Pending level most p o xs ∷ fs) = k.Pending level most p o
kind_of (f.List p done ∷ fs) = k.List p

-- the trees that were read of the innermost frame
abbrev pub done_of : List Frame → Subtrees
done_of [] = no_subtrees
done_of (f.Unit done ∷ fs) = done
done_of (f.Args p w done ∷ fs) = done
done_of (f.Body p w args done ∷ fs) = done
done_of (f.Bracket ∷ fs) = no_subtrees
done_of (f.Index p a ∷ fs) = single a
done_of (f.Pending level most p o xs ∷ fs) = xs
done_of (f.List p done ∷ fs) = done

-- the frames around the innermost one
abbrev pub around : List Frame → List Frame
around [] = []
around (frame ∷ fs) = fs

-- with one more tree in the innermost frame
abbrev pub added : Subtree → List Frame → List Frame
added e (f.Unit done ∷ fs) = f.Unit (joined done e) ∷ fs
added e (f.Args p w done ∷ fs) = f.Args p w (joined done e) ∷ fs
added e (f.Body p w args done ∷ fs) = f.Body p w args (joined done e) ∷ fs
added e (f.Pending level most p o xs ∷ fs) = f.Pending level most p o (joined xs e) ∷ fs
added e (f.List p done ∷ fs) = f.List p (joined done e) ∷ fs
added e fs = fs

-- ---- what is true of each kind

-- one that trees are added to
abbrev pub lists : FrameKind → Bool
lists k.Unit = true
lists (k.Args p w) = true
lists (k.Body p w args) = true
lists (k.List p) = true
lists _ = false

-- one that has trees
abbrev pub has_trees : FrameKind → Bool
has_trees k.Nothing = false
has_trees k.Bracket = false
has_trees _ = true

-- one that may stand before trees such as these
abbrev pub Begins : FrameKind → Subtrees → Type 0
Begins k.Nothing done = ⊥
Begins k.Bracket done = ⊥
Begins (k.Index p) done = IsOne done
Begins _ done = Unit {0}

abbrev pub weight : FrameKind → ℕ
weight k.Nothing = 0
weight k.Unit = 0
weight (k.Pending level most p o) = if nat_eq level most then 1 else 0
weight _ = 1

abbrev pub room : FrameKind → ℕ
room (k.Pending level most p o) = most
room k.Nothing = 0
room k.Unit = 0
room (k.List p) = 0
room _ = 13

-- ---- what is true of all that is open

-- its trees are among the nodes: of a bracket there are none, and of an index there is one
abbrev pub Lies : FrameKind → FrameGroup → List Raw → Type 0
Lies k.Bracket g xs = g.start ≡ length xs
Lies (k.Index p) g xs = (g.start ≤ length xs) × IsOne (trees_of g xs)
Lies _ g xs = g.start ≤ length xs

abbrev pub AreLaid : List OpenFrame → List Raw → Type 0
AreLaid [] xs = Unit {0}
AreLaid (o ∷ os) xs = Lies o.kind o.group xs × AreLaid os (take o.group.start xs)

-- how much is open with so much around it
abbrev pub weigh : FrameKind → ℕ → ℕ
weigh k.Nothing n = 0
weigh kind n = weight kind + n

abbrev pub weights : List OpenFrame → ℕ
weights [] = 0
weights (o ∷ os) = weigh o.kind (weights os)

-- what is open where the innermost one, around which these are, ends
abbrev pub nothing : OpenFrame
nothing = record { kind = k.Nothing; group = record { start = 0; kept = true; levels = [] } }

abbrev pub remaining : List OpenFrame → List OpenFrame
remaining [] = nothing ∷ []
remaining (o ∷ os) = o ∷ os

-- all of them, of which the innermost comes first, with what is held behind them, and how much is open
pub record IsStack (nodes : List Raw) (hand : FrameGroup) (opens : List OpenFrame) (depth : ℕ) : Type 0 where
  pub held : hand.start ≤ length nodes
  pub laid : AreLaid opens (take hand.start nodes)
  pub deep : depth ≡ weights opens
