-- The phrases of elements, as members; and the name of a unit.
use Rattle.std.proofs.Common.{◌≡◌, List, [], ◌∷◌, map, length, refl}
use Rattle.std.proofs.lemmas.List.{length-map}
use Rattle.hal_tree.specs.declared.unit.Unit.{Unit, out-Unit}
use Rattle.hal_tree.specs.Rows.{Member, OfStatement, OfBlock, elements}
use Rattle.hal_tree.specs.SeenLeaves.{seen_name}
use Rattle.hal_tree.specs.declared.unit.File.{File}
use Rattle.hal_tree.specs.SeenUnits.{seen_unit, seen_preface, seen_file}
use Rattle.hal_tree.proofs.MadeUnits.{parts_of_unit, made_file}
use Rattle.hal_phrases.specs.declared.around.Around.{Around}
use Rattle.hal_phrases.specs.Surroundings.{in_file, behind}
use Rattle.hal_phrases.specs.Phrases.{Phrase, add, OfFile}
use Rattle.hal_phrases.specs.GatheredUnits.{gathered_block, gathered_elements, gathered_prefaces, gathered_file, name_of_block}
use Rattle.hal_phrases.specs.Members.{gathered_member, gathered_members}

pub members_gathered : (d : List Phrase) (a : Around) (xs : List Member) → gathered_elements d a (elements xs) ≡ gathered_members d a xs
unfolding gathered_elements elements gathered_member gathered_members
members_gathered d a [] = refl
members_gathered d a (OfStatement statement ∷ xs) = members_gathered (gathered_member d a (OfStatement statement)) a xs
members_gathered d a (OfBlock block ∷ xs) = members_gathered (gathered_member d a (OfBlock block)) a xs

pub name_of_seen : (u : Unit) → name_of_block (seen_unit u) ≡ seen_name (out-Unit u).name
unfolding name_of_block
name_of_seen u = rw (parts_of_unit u) refl

pub file_phrases : (d : List Phrase) (f : File) → gathered_file d (seen_file f)
    ≡ gathered_block (gathered_prefaces (add d (in_file (length d)) (OfFile (map seen_preface f.prefaces.items) (seen_name (out-Unit f.unit).name))) (in_file (length d)) 0 (map seen_preface f.prefaces.items))
    (behind (length f.prefaces.items) (in_file (length d))) (seen_unit f.unit)
unfolding gathered_file
file_phrases d f = rw (made_file f, name_of_seen f.unit, length-map f.prefaces.items seen_preface) refl
