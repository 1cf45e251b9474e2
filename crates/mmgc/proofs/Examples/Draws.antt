-- Worked draws of the generator, one for each row of its table.
use Rattle.std.proofs.Common.{◌≡◌, ℕ, false, refl}
use Rattle.mm_model.specs.declared.command.Command.{Command}
use Rattle.mm_model.specs.declared.command.Command.TheVariants as commands
use Rattle.mm_model.specs.declared.object.Kind.{Kind}
use Rattle.mm_model.specs.declared.object.Kind.TheVariants.{Traced, Leaf, Counted}
use Rattle.mmgc.specs.Generator.{drawn, generated_by, next}

-- an object without a finalizer
abbrev new : Kind → ℕ → ℕ → Command
new kind counted slots =
    commands.New (record { kind = kind; finalize = false; counted = counted; slots = slots })

-- 171 is 5 * 32 + 1 * 8 + 3, so i = 3, s = 1 and j = 5, and 171 / 8 is 21, so q = 5
pub traced : (drawn 0 171 ≡ new Traced 1 4) × (drawn 1 171 ≡ new Traced 1 4)
traced = (refl, refl)

pub counted : (drawn 2 171 ≡ new Counted 2 4) × (drawn 3 171 ≡ new Counted 2 4) × (drawn 4 171 ≡ new Counted 2 4)
counted = (refl, refl, refl)

pub leaf : (drawn 5 599 ≡ new Leaf 0 599) × (drawn 5 600 ≡ new Leaf 0 0)
leaf = (refl, refl)

pub put : (drawn 6 171 ≡ commands.Put 3 1 5) × (drawn 7 171 ≡ commands.Put 3 1 5) × (drawn 8 171 ≡ commands.Put 3 1 5)
put = (refl, refl, refl)

pub get : drawn 9 171 ≡ commands.Get 3 1
get = refl

pub weak : drawn 10 171 ≡ commands.Weak 3
weak = refl

pub look : drawn 11 171 ≡ commands.Look 3
look = refl

pub pop : (drawn 12 171 ≡ commands.Pop 4) × (drawn 13 168 ≡ commands.Pop 1)
pop = (refl, refl)

pub area_put : drawn 14 171 ≡ commands.AreaPut 0 5 5
area_put = refl

pub collect : (drawn 15 0 ≡ commands.Collect) × (drawn 31 64 ≡ commands.Collect)
collect = (refl, refl)

pub reap : (drawn 15 1 ≡ commands.Reap) × (drawn 15 3 ≡ commands.Reap)
reap = (refl, refl)

pub begin : (drawn 15 4 ≡ commands.Begin) × (drawn 15 7 ≡ commands.Begin)
begin = (refl, refl)

pub step : (drawn 15 8 ≡ commands.Step 16) × (drawn 15 39 ≡ commands.Step 16)
step = (refl, refl)

pub finish : (drawn 15 40 ≡ commands.Finish) × (drawn 15 47 ≡ commands.Finish)
finish = (refl, refl)

-- 368 is 5 * 64 + 48
pub area_get : (drawn 15 368 ≡ commands.AreaGet 0 5) × (drawn 15 63 ≡ commands.AreaGet 0 0)
area_get = (refl, refl)

-- the first command draws nothing, and the second draws 15,521 and 30,144
pub first : generated_by 2 1 0 ≡ (commands.Root 4 8, 2)
first = refl

pub drawn_first : next 2 ≡ 1017233273
drawn_first = refl

pub second : generated_by 2 2 2 ≡ (new Traced 1 4, 1975575172)
second = refl
