-- The commands of a generated trace.
use Rattle.std.specs.Prelude.{ℕ, zero, suc, ◌+◌, ◌*◌, ◌/◌, ◌%◌, ◌^◌, nat_lt, ◌==◌, if◌then◌else◌, false, List, [], ◌∷◌}
use Rattle.std.specs.Prelude.{◌++◌}
use Rattle.mm_model.specs.declared.command.Command.{Command}
use Rattle.mm_model.specs.declared.command.Command.TheVariants as commands
use Rattle.mm_model.specs.declared.object.Kind.TheVariants.{Traced, Leaf, Counted}
use Rattle.mmgc.specs.declared.generator.GeneratedTrace.{GeneratedTrace}

-- the state after a draw
abbrev pub next : ℕ → ℕ
next state = (state * 1664525 + 1013904223) % 2 ^ 32

-- Of 64 draws, one is a full collection, three are reaps, and so on.
abbrev pub seldom : ℕ → Command
seldom b =
    if nat_lt (b % 64) 1 then commands.Collect else (if nat_lt (b % 64) 4 then commands.Reap else
    (if nat_lt (b % 64) 8 then commands.Begin else (if nat_lt (b % 64) 40 then commands.Step 16 else
    (if nat_lt (b % 64) 48 then commands.Finish else commands.AreaGet 0 ((b / 64) % 8)))))

-- the command of two draws
abbrev pub drawn : ℕ → ℕ → Command
drawn a b =
    if nat_lt (a % 16) 2 then commands.New
    (record { kind = Traced; finalize = false; counted = 1; slots = 4 }) else
    (if nat_lt (a % 16) 5 then commands.New
    (record { kind = Counted; finalize = false; counted = 2; slots = 4 }) else
    (if nat_lt (a % 16) 6 then commands.New
    (record { kind = Leaf; finalize = false; counted = 0; slots = b % 600 }) else
    (if nat_lt (a % 16) 9 then commands.Put (b % 8) ((b / 8) % 4) ((b / 32) % 8) else
    (if nat_lt (a % 16) 10 then commands.Get (b % 8) ((b / 8) % 4) else
    (if nat_lt (a % 16) 11 then commands.Weak (b % 8) else
    (if nat_lt (a % 16) 12 then commands.Look (b % 8) else
    (if nat_lt (a % 16) 14 then commands.Pop (1 + b % 8) else
    (if nat_lt (a % 16) 15 then commands.AreaPut 0 ((b / 8) % 8) ((b / 32) % 8) else seldom b))))))))

-- The command of this number, and the state behind it. The first one makes an area and draws nothing.
abbrev pub generated_by : ℕ → ℕ → ℕ → Command × ℕ
generated_by seed number state =
    if number == 1 then (commands.Root 4 8, seed)
    else (drawn (next state / 65536) (next (next state) / 65536), next (next state))

-- the two apart
abbrev pub generated_command : ℕ → ℕ → ℕ → Command
generated_command seed number state = (generated_by seed number state).0

abbrev pub next_state : ℕ → ℕ → ℕ → ℕ
next_state seed number state = (generated_by seed number state).1

-- the state of the generator behind so many commands
abbrev pub state_after : ℕ → ℕ → ℕ
state_after seed zero = 0
state_after seed (suc n) = next_state seed (n + 1) (state_after seed n)

-- so many commands, from number 1 on
abbrev pub generated_commands : ℕ → ℕ → List Command
generated_commands seed zero = []
generated_commands seed (suc n) =
    generated_commands seed n ++ generated_command seed (n + 1) (state_after seed n) ∷ []

-- the commands of a generated trace
abbrev pub commands_of : GeneratedTrace → List Command
commands_of trace = generated_commands trace.seed trace.count

-- so many commands can be asked for
abbrev pub most_generated : ℕ
most_generated = 4000000
