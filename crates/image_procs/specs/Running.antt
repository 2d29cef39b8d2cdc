-- What is kept of the processes of an image.
use Rattle.std.specs.Prelude.{◌≡◌, ℕ, ◌<◌, ◌^◌, List, length, map, Option, Some, slice_get}
use Rattle.hal_values.specs.declared.tables.Tables.{Tables}
use Rattle.hal_values.specs.Answers.{Answered}
use Rattle.hal_code.specs.declared.image.ImageParts.{ImageParts}
use Rattle.hal_code.specs.Courses.{setting_of}
use Rattle.hal_code.specs.Images.{tables_of}
use Rattle.hal_right_values.specs.Finding.{HaveCells}
use Rattle.hal_right_values.specs.Ranges.{AreInRange}
use Rattle.hal_runner.specs.declared.loading.Loaded.{Loaded}
use Rattle.hal_runner.specs.declared.reply.Reply.{Reply}
use Rattle.hal_runner.specs.Loading.{IsLoaded}
use Rattle.hal_runner.specs.Cases.{AreReady}
use Rattle.exec_model.specs.Processes as processes
use Rattle.image_procs.specs.declared.load.ImageLoad.{ImageLoad}
use Rattle.image_procs.specs.declared.course.Course.{Course}
use Rattle.image_procs.specs.Tellings.{answers_told, look_seen}
use Rattle.image_procs.specs.Courses.{Parts, parts, IsCourse, room}

-- the load, and for each process what it was told, for how many further answers it has room, and the last look at an UPDATE block of it
pub record Running : Type 0 where
  pub load : ImageLoad
  pub told : List (List (Reply × ℕ))
  pub rooms : List ℕ
  pub looks : List (Option processes.Look)

abbrev pub told_in : Course → List (Reply × ℕ)
told_in one = one.told.items

abbrev pub look_in : Course → Option processes.Look
look_in one = look_seen one.look

abbrev pub running : ImageLoad → List Course → Running
running load courses = record { load = load; told = map told_in courses; rooms = map room courses; looks = map look_in courses }

-- the answers of each process
abbrev pub answers_of : Running → List (List Answered)
answers_of r = map answers_told r.told

-- what is made once for each process is made of the image
abbrev pub AreLoaded : ImageParts → List Loaded → Type 0
AreLoaded image all = (p : ℕ) (one : Loaded) → slice_get all p ≡ Some one → IsLoaded image p one

-- each process stands where its answers lead
abbrev pub AreCourses : ImageLoad → List Parts → Type 0
AreCourses load all = (p : ℕ) (one : Parts) → slice_get all p ≡ Some one → IsCourse (setting_of load.turns load.image p) one

-- the tables are those of the image, the machine can run its code, which is made ready, and all its processes are there
pub record IsRunning (load : ImageLoad) (tables : Tables) (loaded : List Loaded) (courses : List Course) : Type 0 where
  pub tables_are : tables ≡ tables_of load.image
  pub cells : HaveCells load.image
  pub ranged : AreInRange load.image
  pub short : length load.image.code < 2 ^ 64
  pub ready : AreReady load.image load.ready
  pub loads : AreLoaded load.image loaded
  pub many_loads : length loaded ≡ length load.image.processes
  pub stand : AreCourses load (map parts courses)
  pub many : length courses ≡ length load.image.processes
