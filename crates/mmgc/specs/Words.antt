-- What the words behind the program's name ask for.
use Rattle.std.specs.Prelude.{◌&&◌, ℕ, ◌-◌, ◌^◌, Bool, true, false, not, if◌then◌else◌, nat_le, List, ◌∷◌, Option, None}
use Rattle.std.specs.Prelude.{Some, is_none, Result, Ok, Err, codes}
use Rattle.std.specs.Option.{option_map_or}
use Rattle.std.specs.Prelude.{option_and_then, option_map}
use Rattle.std.specs.Str.{bytes_eq}
use Rattle.clap.specs.Words.{App, Row, Rule, Text, first_of, matches_of, new_app, new_rule, takes, with_rule}
use Rattle.clap.specs.Simple.{on_top}
use Rattle.clap.specs.declared.builder.action.ArgAction.TheVariants.{SetTrue}
use Rattle.mm_model.specs.declared.refusal.LineFault.{LineFault}
use Rattle.mm_model.specs.declared.settings.Settings.{Settings}
use Rattle.mm_model.specs.Logs.Trace.{number_of}
use Rattle.mmgc.specs.declared.extras.Extras.{Extras}
use Rattle.mmgc.specs.declared.generator.GeneratedTrace.{GeneratedTrace}
use Rattle.mmgc.specs.Generator.{most_generated}

-- The settings of the heap, the file to read, where one is named, the generated trace that takes the place of the
-- input, where one is asked for, and what is to stand behind the log and whether cycles are paced.
pub record Choice : Type 0 where
  pub settings : Settings
  pub file : Option (List ℕ)
  pub generated : Option GeneratedTrace
  pub extras : Extras

-- an option with one value
abbrev pub option_rule : Text → Rule
option_rule name = record (new_rule name) { long = Some name }

-- a command without flags for help and version
abbrev pub without_help : App → App
without_help app = on_top (λ s. record s { disable_help_flag = true; disable_version_flag = true }) app

abbrev pub with_option : App → Text → App
with_option app name = with_rule app (option_rule name)

-- the options that set something of the heap
abbrev pub settings_app : App
settings_app =
    with_option (with_option (with_option (with_option (with_option (without_help (new_app (codes "mmgc")))
    (codes "pages")) (codes "max")) (codes "zct")) (codes "queue")) (codes "stack")

-- an option without a value
abbrev pub flag_rule : Text → Rule
flag_rule name = record (option_rule name) { action = Some SetTrue }

-- with the options that ask for something beside the heap
abbrev pub asking_app : App
asking_app =
    with_option (with_option (with_option (with_option settings_app (codes "gen")) (codes "count")) (codes "why"))
    (codes "pace")

-- the program's command
abbrev pub mmgc_app : App
mmgc_app = with_rule (with_rule asking_app (flag_rule (codes "sites"))) (new_rule (codes "FILE"))

-- the values that words give, each where it stands
pub record Values : Type 0 where
  pub pages : Option Text
  pub max : Option Text
  pub zct : Option Text
  pub queue : Option Text
  pub stack : Option Text
  pub generated : Option Text
  pub count : Option Text
  pub why : Option Text
  pub pace : Option Text
  pub sites : Bool
  pub file : Option Text

-- a flag stands there
abbrev pub is_set : Text → List Row → Bool
is_set name rows = option_map_or (λ text. bytes_eq text (codes "true")) (first_of name rows) false

abbrev pub values_in : List Row → Values
values_in rows =
    record {
      pages = first_of (codes "pages") rows;
      max = first_of (codes "max") rows;
      zct = first_of (codes "zct") rows;
      queue = first_of (codes "queue") rows;
      stack = first_of (codes "stack") rows;
      generated = first_of (codes "gen") rows;
      count = first_of (codes "count") rows;
      why = first_of (codes "why") rows;
      pace = first_of (codes "pace") rows;
      sites = is_set (codes "sites") rows;
      file = first_of (codes "FILE") rows;
    }

-- the least and the greatest value of an option, and its value where it doesn't stand
pub record Limits : Type 0 where
  pub least : ℕ
  pub most : ℕ
  pub default : ℕ

-- a number within limits
abbrev pub within : Limits → Result ℕ LineFault → Option ℕ
within limits (Err fault) = None
within limits (Ok n) = if nat_le limits.least n && nat_le n limits.most then Some n else None

-- what an option's value comes to: none where it's no number of the trace's grammar or out of its limits
abbrev pub setting_of : Limits → Option Text → Option ℕ
setting_of limits None = Some limits.default
setting_of limits (Some text) = within limits (number_of text)

abbrev pub limits : ℕ → ℕ → ℕ → Limits
limits least most default = record { least = least; most = most; default = default }

-- The greatest number of pages is at least the least one, and is the same where it isn't said.
abbrev pub settings_of : Values → Option Settings
settings_of values =
    option_and_then (λ pages. option_and_then (λ max. option_and_then (λ zct. option_and_then (λ queue.
    option_and_then (λ stack.
    Some (record { pages = pages; max = max; zct = zct; queue = queue; stack = stack }))
    (setting_of (limits 1 65536 1024) values.stack))
    (setting_of (limits 1 65536 256) values.queue))
    (setting_of (limits 1 1048575 256) values.zct))
    (setting_of (limits pages 4096 pages) values.max))
    (setting_of (limits 2 4096 1024) values.pages)

-- no file, or `-`, stands for the source as handed in
abbrev pub file_of : Option Text → Option Text
file_of None = None
file_of (Some name) = if bytes_eq name (codes "-") then None else Some name

-- a seed and a number of commands
abbrev pub trace_of : Text → Text → Option GeneratedTrace
trace_of seed count =
    option_and_then (λ seed. option_and_then (λ count. Some (record { seed = seed; count = count }))
    (setting_of (limits 0 most_generated 0) (Some count)))
    (setting_of (limits 0 (2 ^ 32 - 1) 0) (Some seed))

-- nothing stands behind the log, cycles aren't paced, and no sites are kept
abbrev pub no_extras : Extras
no_extras = record { why = None; rate = None; sites = false }

-- the value of an option that has no default, where it stands
abbrev pub number_if_given : Limits → Option Text → Option (Option ℕ)
number_if_given limits None = Some None
number_if_given limits (Some text) = option_map (λ n. Some n) (setting_of limits (Some text))

-- a word, which is any number of the trace's grammar, a rate, and whether sites are kept
abbrev pub extras_of : Option Text → Option Text → Bool → Option Extras
extras_of why pace sites =
    option_and_then (λ why. option_map (λ rate. record { why = why; rate = rate; sites = sites })
    (number_if_given (limits 1 1024 0) pace))
    (number_if_given (limits 0 (2 ^ 32 - 1) 0) why)

-- a trace that is read
abbrev pub reading : Settings → Option Text → Option Extras → Option Choice
reading settings file None = None
reading settings file (Some extras) =
    Some (record { settings = settings; file = file_of file; generated = None; extras = extras })

-- With a generated trace no file is read, nothing stands behind the log, cycles aren't paced, and no sites are kept.
abbrev pub generating : Settings → Option GeneratedTrace → Option Choice
generating settings None = None
generating settings (Some trace) =
    Some (record { settings = settings; file = None; generated = Some trace; extras = no_extras })

-- none of FILE, `--why`, `--pace` and `--sites` stands there
abbrev pub is_plain : Values → Bool
is_plain values = is_none values.file && is_none values.why && is_none values.pace && not values.sites

-- `--gen` and `--count` stand together or not at all, and beside them nothing but what sets something of the heap.
abbrev pub choice_with : Settings → Option Text → Option Text → Bool → Option Choice → Option Choice
choice_with settings None None plain read = read
choice_with settings (Some seed) (Some count) true read = generating settings (trace_of seed count)
choice_with settings seed count plain read = None

-- what the values ask for
abbrev pub choice_from : Values → Option Choice
choice_from values =
    option_and_then
    (λ settings. choice_with settings values.generated values.count (is_plain values)
    (reading settings values.file (extras_of values.why values.pace values.sites)))
    (settings_of values)

-- what the values ask for that the program's command gives for a list, whose first word is the program's name
abbrev pub choice_in : List Text → Option Choice
choice_in list = choice_from (values_in (matches_of mmgc_app list))

-- the same, where the command takes the list
abbrev pub choice_taken : List Text → Option Choice
choice_taken list = if takes mmgc_app list then choice_in list else None

-- what the values of the words ask for
abbrev pub choice_of : List Text → Option Choice
choice_of words = choice_in (codes "mmgc" ∷ words)

-- what the words ask for, where they can be read
abbrev pub choice_read : List Text → Option Choice
choice_read words = choice_taken (codes "mmgc" ∷ words)
