use Rattle.hal_phrases.specs.GatheredUnits.{phrases_of}
use Rattle.hal_names.proofs.CountedFiles.{phrases_counted}
use Rattle.hal_names.proofs.Search.{deeper, outward}
use Rattle.hal_names.proofs.laws.the_search_never_runs_out.Goals as goal

pub returns-clause-deeper : goal.returns-clause-deeper
returns-clause-deeper c = λ files depth block name long. deeper (phrases_of files) depth block name (phrases_counted files) long

pub returns-clause-outward : goal.returns-clause-outward
returns-clause-outward c = λ files block name. outward (phrases_of files) block name (phrases_counted files)
