-- The image of a set of files, or the place of the first phrase that has no code yet.
use Rattle.std.specs.Prelude.{ℕ, suc, List, [], ◌∷◌, ◌++◌, length, map, Option, Some, None, Result, Ok, Err, if◌then◌else◌}
use Rattle.hal_base.specs.declared.refusal.Place as bases
use Rattle.hal_values.specs.declared.tables.EventStart.{EventStart}
use Rattle.hal_meaning.specs.Bodies.{Body}
use Rattle.hal_meaning.specs.Calls.{is_function}
use Rattle.hal_meaning.specs.Places.{Place}
use Rattle.hal_meaning.specs.Runs.{here_in, places_of_process}
use Rattle.hal_meaning.specs.Sets.{Set, body_at}
use Rattle.hal_code.specs.declared.choice.Choice.{Choice}
use Rattle.hal_code.specs.declared.choice.Choice.TheVariants as choice
use Rattle.hal_code.specs.declared.image.ImageParts.{ImageParts}
use Rattle.hal_code.specs.declared.instr.Instr.{Instr}
use Rattle.hal_code.specs.declared.row.Block.{Block}
use Rattle.hal_code.specs.declared.row.OwnPlace.{OwnPlace}
use Rattle.hal_code.specs.declared.row.OwnPlace.TheVariants as place
use Rattle.hal_code.specs.declared.row.Process.{Process}
use Rattle.hal_code.specs.declared.row.ResultKind.TheVariants as result
use Rattle.hal_code.specs.declared.row.View.{View}
use Rattle.hal_agreement.specs.Sites.{Site, site_of}
use Rattle.hal_runs.specs.Joined.{rows_joined}
use Rattle.hal_runs.specs.Same.{same_cell, same_place}
use Rattle.hal_gen_expr.specs.Emitting.{Emitted}
use Rattle.hal_gen_expr.specs.Numbering.{Numbering}
use Rattle.hal_link.specs.Outlines.{Outline, outlines_of, block_of, numbering_of}
use Rattle.hal_link.specs.ProcessCode.{process_code}
use Rattle.hal_link.specs.Shapes.{Shapes, shapes_of, reference_shape}
use Rattle.hal_link.specs.UnitCode.{unit_code, unit_block}

-- the code of some blocks, and their rows
pub record Linked : Type 0 where
  pub code : List Instr
  pub blocks : List Block

abbrev pub linked : List Instr → List Block → Linked
linked code blocks = record { code = code; blocks = blocks }

-- None is the place where a unit has no statements, to which no set of files comes
abbrev pub Linking : Type 0
Linking = Result Linked (Option bases.Place)

-- what is linked behind it
abbrev pub and_then : Linking → (Linked → Linking) → Linking
and_then (Ok so_far) next = next so_far
and_then (Err at) next = Err at

-- the block of a process: from one instruction to another
abbrev pub process_block : ℕ → ℕ → ℕ → Block
process_block p first end = record { process = p; first = first; end = end; result = choice.Known result.Nothing }

-- where the statements of a unit stand, in the process with this number
abbrev pub process_site : Set → ℕ → Body → Site
process_site s p body = site_of (here_in s p (places_of_process s p) body)

-- code of one block behind those before it
abbrev pub behind_block : (ℕ → ℕ → Block) → Linked → Emitted → Linking
behind_block row so_far (Ok code) = Ok (linked code (so_far.blocks ++ (row (length so_far.code) (length code) ∷ [])))
behind_block row so_far (Err at) = Err (Some at)

-- a process, whose statements stand at this site
abbrev pub with_process_at : Numbering → Site → ℕ → Linked → Body → Linking
with_process_at n site p so_far body =
    if is_function body.head then Err None else behind_block (process_block p) so_far (process_code n site so_far.code body.statements)

abbrev pub with_process : Set → Numbering → ℕ → Linked → Option Body → Linking
with_process s n p so_far None = Err None
with_process s n p so_far (Some body) = with_process_at n (process_site s p body) p so_far body

-- a unit that it calls
abbrev pub with_unit_at : Numbering → Site → ℕ → Linked → Body → Linking
with_unit_at n site p so_far body = behind_block (unit_block p body.head) so_far (unit_code n site so_far.code body.head body.statements)

abbrev pub with_unit : Set → Numbering → ℕ → Linked → Option Body → Linking
with_unit s n p so_far None = Err None
with_unit s n p so_far (Some body) = with_unit_at n (process_site s p body) p so_far body

-- the units with these numbers
unfoldable pub with_units : Set → Numbering → ℕ → List ℕ → Linked → Linking
with_units s n p [] so_far = Ok so_far
with_units s n p (k ∷ ks) so_far = and_then (with_unit s n p so_far (body_at s k)) (with_units s n p ks)

-- the units that a process calls, and then the process itself
abbrev pub with_outline : Set → Shapes → List View → Outline → Linked → Linking
with_outline s shapes views o so_far =
    and_then (with_units s (numbering_of shapes views o) o.process o.called so_far) (λ late. with_process s (numbering_of shapes views o) o.process late (body_at s o.unit))

unfoldable pub with_outlines : Set → Shapes → List View → List Outline → Linked → Linking
with_outlines s shapes views [] so_far = Ok so_far
with_outlines s shapes views (o ∷ os) so_far = and_then (with_outline s shapes views o so_far) (with_outlines s shapes views os)

-- the row of an own place; a reference is to data of the shape of its parameter
abbrev pub own_row : Set → Shapes → Place → OwnPlace
own_row s shapes one = elim one.kind [ None ↦ place.Reference (reference_shape s shapes one.owner) | Some k ↦ place.Data k one.initial ]

-- the rows of processes from this one on
abbrev pub processes_from : Set → List Outline → ℕ → List (List ℕ) → List Process
processes_from s os p [] = []
processes_from s os p (name ∷ names) = record { name = name; block = block_of os p; places = rows_joined same_place (map (own_row s (shapes_of s)) (places_of_process s p)) } ∷ processes_from s os (suc p) names

abbrev pub known_start : EventStart → Choice EventStart
known_start start = choice.Known start

abbrev pub image_with : Set → List View → Linked → ImageParts
image_with s views one = record {
  cells = rows_joined same_cell s.tables.cells;
  events = map known_start s.tables.events;
  common = [];
  processes = processes_from s (outlines_of s) 0 s.tables.processes;
  first = s.tables.first;
  shapes = shapes_of s;
  views = views;
  expressions = s.tables.expressions;
  blocks = one.blocks;
  names = s.tables.names;
  code = one.code;
}

abbrev pub linking : Set → List View → Linking
linking s views = with_outlines s (shapes_of s) views (outlines_of s) (linked [] [])

abbrev pub image_by : Set → List View → Linking → Result ImageParts (Option bases.Place)
image_by s views (Ok one) = Ok (image_with s views one)
image_by s views (Err at) = Err at

-- the image with these views
abbrev pub image_of : Set → List View → Result ImageParts (Option bases.Place)
image_of s views = image_by s views (linking s views)
