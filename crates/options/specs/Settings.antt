-- The options of a run, from the argument list.
-- Assumes nothing.
use Rattle.std.specs.Prelude.{ℕ, ◌+◌, Bool, true, false, cond, List, [], ◌∷◌, ◌++◌, Some, None, Ok, Err, vec_items, codes, Option, Result}
use Rattle.std.specs.Str.{bytes_eq}
use Rattle.console.specs.declared.numbers.NumberFault.{NumberFault}
use Rattle.options.specs.declared.arguments.Argument.{Argument}
use Rattle.options.specs.declared.arguments.Argument.TheVariants.{Pc, Vector, Retire, Budget, Raise, Drop, Sequential, Records, Summary}
use Rattle.options.specs.declared.arguments.BadArgument.{BadArgument}
use Rattle.options.specs.declared.arguments.OptionFault.{OptionFault}
use Rattle.options.specs.declared.arguments.OptionFault.TheVariants.{Unknown, NoValue, BadNumber}
use Rattle.options.specs.declared.arguments.Options.{Options}
use Rattle.options.specs.declared.arguments.Report.{Report}
use Rattle.options.specs.declared.arguments.Report.TheVariants.{Table, Records as AsRecords, Summary as AsSummary}
use Rattle.options.specs.declared.schedule.LineEvent.{LineEvent}
use Rattle.console.specs.Numbers.{number_of}
use Rattle.options.specs.Addresses.{address_of}

-- what an `Options` holds, with its events as a list
pub record Settings : Type 0 where
  pub pc : ℕ
  pub vector : ℕ
  pub retire : ℕ
  pub budget : Option ℕ
  pub events : List LineEvent
  pub sequential : Bool
  pub report : Report

abbrev pub settings_of : Options → Settings
settings_of o = record { pc = o.pc; vector = o.vector; retire = o.retire; budget = o.budget; events = vec_items o.events; sequential = o.sequential; report = o.report }

abbrev pub defaults : Settings
defaults = record { pc = 0; vector = 0; retire = 1000; budget = None; events = []; sequential = false; report = Table }

abbrev pub argument_named : List ℕ → Option Argument
argument_named t =
    cond (bytes_eq t (codes "--pc")) (Some Pc)
    (cond (bytes_eq t (codes "--vector")) (Some Vector)
    (cond (bytes_eq t (codes "--retire")) (Some Retire)
    (cond (bytes_eq t (codes "--budget")) (Some Budget)
    (cond (bytes_eq t (codes "--raise")) (Some Raise)
    (cond (bytes_eq t (codes "--drop")) (Some Drop)
    (cond (bytes_eq t (codes "--sequential")) (Some Sequential)
    (cond (bytes_eq t (codes "--records")) (Some Records)
    (cond (bytes_eq t (codes "--summary")) (Some Summary)
    None))))))))

abbrev with_pc : ℕ → Settings → Settings
with_pc n s = record { pc = n; vector = s.vector; retire = s.retire; budget = s.budget; events = s.events; sequential = s.sequential; report = s.report }

abbrev with_vector : ℕ → Settings → Settings
with_vector n s = record { pc = s.pc; vector = n; retire = s.retire; budget = s.budget; events = s.events; sequential = s.sequential; report = s.report }

abbrev with_retire : ℕ → Settings → Settings
with_retire n s = record { pc = s.pc; vector = s.vector; retire = n; budget = s.budget; events = s.events; sequential = s.sequential; report = s.report }

abbrev with_budget : ℕ → Settings → Settings
with_budget n s = record { pc = s.pc; vector = s.vector; retire = s.retire; budget = Some n; events = s.events; sequential = s.sequential; report = s.report }

-- events stand in the order of their arguments
abbrev pub with_event : Bool → ℕ → Settings → Settings
with_event up n s = record { pc = s.pc; vector = s.vector; retire = s.retire; budget = s.budget; events = s.events ++ record { after = n; up = up } ∷ []; sequential = s.sequential; report = s.report }

abbrev with_report : Report → Settings → Settings
with_report r s = record { pc = s.pc; vector = s.vector; retire = s.retire; budget = s.budget; events = s.events; sequential = s.sequential; report = r }

abbrev on_sequential : Settings → Settings
on_sequential s = record { pc = s.pc; vector = s.vector; retire = s.retire; budget = s.budget; events = s.events; sequential = true; report = s.report }

-- an argument that takes a number waits for it; the others act at once
abbrev pub begun : Argument → Settings → Settings × Option Argument
begun Pc s = (s, Some Pc)
begun Vector s = (s, Some Vector)
begun Retire s = (s, Some Retire)
begun Budget s = (s, Some Budget)
begun Raise s = (s, Some Raise)
begun Drop s = (s, Some Drop)
begun Sequential s = (on_sequential s, None)
begun Records s = (with_report AsRecords s, None)
begun Summary s = (with_report AsSummary s, None)

abbrev pub with_number : (ℕ → Settings → Settings) → Settings → Result ℕ NumberFault → Result Settings OptionFault
with_number set s (Ok n) = Ok (set n s)
with_number set s (Err e) = Err (BadNumber e)

-- the text after an argument that takes a number
abbrev pub given : Argument → List ℕ → Settings → Result Settings OptionFault
given Pc t s = with_number with_pc s (address_of t)
given Vector t s = with_number with_vector s (address_of t)
given Retire t s = with_number with_retire s (number_of t)
given Budget t s = with_number with_budget s (number_of t)
given Raise t s = with_number (with_event true) s (number_of t)
given Drop t s = with_number (with_event false) s (number_of t)
given Sequential t s = Ok s
given Records t s = Ok s
given Summary t s = Ok s

abbrev pub begun_named : Option Argument → Settings → Result (Settings × Option Argument) OptionFault
begun_named None s = Err Unknown
begun_named (Some a) s = Ok (begun a s)

abbrev pub now_settled : Result Settings OptionFault → Result (Settings × Option Argument) OptionFault
now_settled (Ok s) = Ok (s, None)
now_settled (Err e) = Err e

-- one text of the argument list, after an argument that waits for its number, if any does
abbrev pub taken : Option Argument → List ℕ → Settings → Result (Settings × Option Argument) OptionFault
taken None t s = begun_named (argument_named t) s
taken (Some a) t s = now_settled (given a t s)

-- at the end of the list none may wait
abbrev pub ended : ℕ → Option Argument → Settings → Result Settings BadArgument
ended n None s = Ok s
ended n (Some a) s = Err (record { place = n; fault = NoValue })

-- the texts from place n on
abbrev pub settings_from : ℕ → Result (Settings × Option Argument) OptionFault → List (List ℕ) → Result Settings BadArgument
settings_from n (Err e) ts = Err (record { place = n; fault = e })
settings_from n (Ok (s, a)) [] = ended n a s
settings_from n (Ok (s, a)) (t ∷ ts) = settings_from (n + 1) (taken a t s) ts

-- the places of a list begin with 1; place 0 stands before it
abbrev pub settings_in : List (List ℕ) → Result Settings BadArgument
settings_in ts = settings_from 0 (Ok (defaults, None)) ts
