-- The replies that the answers of calls stand for.
use Rattle.std.specs.Prelude.{ℕ, Option, Some, None, Result, Ok, Err}
use Rattle.mm_model.specs.declared.refusal.Refusal.{Refusal}
use Rattle.mm_model.specs.declared.reply.Reply.{Reply}
use Rattle.mm_model.specs.declared.reply.Reply.TheVariants as replies
use Rattle.mm_model.specs.declared.reply.Put.{Put}
use Rattle.mm_model.specs.declared.reply.Put.TheVariants.{Tight, Loose}
use Rattle.mm_model.specs.declared.reply.Mapped.{Mapped}
use Rattle.mm_model.specs.declared.reply.AreaAnswer.{AreaAnswer}
use Rattle.mm_model.specs.declared.reply.WeakAnswer.{WeakAnswer}
use Rattle.mm_model.specs.declared.reply.WeakAnswer.TheVariants.{Made, Kept}

abbrev pub new_reply : Result ℕ Refusal → Reply
new_reply (Ok base) = replies.New base
new_reply (Err because) = replies.Refused because

abbrev pub done_reply : {X : Type 0} → Result X Refusal → Reply
done_reply (Ok x) = replies.Done
done_reply (Err because) = replies.Refused because

abbrev pub word_reply : Result ℕ Refusal → Reply
word_reply (Ok word) = replies.Word word
word_reply (Err because) = replies.Refused because

abbrev pub put_reply : Result Put Refusal → Reply
put_reply (Ok Tight) = replies.Done
put_reply (Ok Loose) = replies.Loose
put_reply (Err because) = replies.Refused because

abbrev pub weak_reply : Result WeakAnswer Refusal → Reply
weak_reply (Ok (Made base)) = replies.New base
weak_reply (Ok (Kept base)) = replies.Word base
weak_reply (Err because) = replies.Refused because

abbrev pub area_reply : Result AreaAnswer Refusal → Reply
area_reply (Ok area) = replies.Area area
area_reply (Err because) = replies.Refused because

abbrev pub map_reply : Result (Option Mapped) Refusal → Reply
map_reply (Ok None) = replies.Nothing
map_reply (Ok (Some found)) = replies.Object found
map_reply (Err because) = replies.Refused because
