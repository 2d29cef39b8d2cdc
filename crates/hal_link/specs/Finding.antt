-- Where the statements of units stand in processes.
use Rattle.std.specs.Prelude.{List}
use Rattle.hal_meaning.specs.Bodies.{Body}
use Rattle.hal_meaning.specs.Places.{Place}
use Rattle.hal_meaning.specs.Sets.{Set}
use Rattle.hal_agreement.specs.Sites.{Site}

-- the site of a unit's statements in a process with these own places
abbrev pub site_with : Set → List Place → Body → Site
site_with s places body = record { set = s; places = places; unit = body.number; block = body.number; marks = body.marks }
