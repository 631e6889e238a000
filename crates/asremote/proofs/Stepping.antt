-- What a step of a conversation came to.
use Rattle.std.proofs.Common.{◌≡◌, ℕ, true, false, List, Option, Some, None, subst, inl, inr}
use Rattle.ang_host.specs.Meanings.{Meanings}
use Rattle.ang_engine.specs.declared.engine.Engine.{Engine}
use Rattle.ang_engine.specs.declared.prepared.Prepared.{Prepared}
use Rattle.asremote.specs.Commands.{ReadsCommand}
use Rattle.asremote.specs.declared.commands.Next.{Next}
use Rattle.asremote.specs.declared.commands.Next.TheVariants as next
use Rattle.asremote.specs.declared.turns.At.{At}
use Rattle.asremote.specs.Conversation.{stepped, TookTurn, TookHalf, Steps, StepsHalf}
use Rattle.asremote.specs.Turns.{TakesOne, TakesHalf}

module _ {V : Type 0} {P : V → Type 0} (m : Meanings P) (e f : Engine V P) (ps qs : List Prepared) (r1 r2 w1 w2 : Option (List ℕ)) (number ticks : ℕ) where
  -- a turn was taken with a command, or with the last one
  took_more : (o : Option At) → TookTurn m e f ps qs r1 r2 w1 w2 number ticks next.Command o → Steps m e f ps qs r1 r2 w1 w2 number ticks (stepped o false)
  took_more None k = inl k
  took_more (Some at) k = k

  took_last : (o : Option At) → TookTurn m e f ps qs r1 r2 w1 w2 number ticks next.Last o → Steps m e f ps qs r1 r2 w1 w2 number ticks (stepped o true)
  took_last None k = inr k
  took_last (Some at) k = k

  module _ (c now : List ℕ) (same : now ≡ c) (x : Next) (read : ReadsCommand r1 r2 x c) where
    read_as : (y : Next) → x ≡ y → ReadsCommand r1 r2 y c
    read_as y is = subst (λ z. ReadsCommand r1 r2 z c) is read

    took : (o : Option At) → TakesOne m e f ps qs w1 w2 number ticks now o → TakesOne m e f ps qs w1 w2 number ticks c o
    took o taken = subst (λ y. TakesOne m e f ps qs w1 w2 number ticks y o) same taken

    half : TakesHalf m e f ps qs w1 w2 number ticks now → TakesHalf m e f ps qs w1 w2 number ticks c
    half taken = subst (λ y. TakesHalf m e f ps qs w1 w2 number ticks y) same taken

    pub steps_more : x ≡ next.Command → (o : Option At) → TakesOne m e f ps qs w1 w2 number ticks now o → Steps m e f ps qs r1 r2 w1 w2 number ticks (stepped o false)
    steps_more is o taken = took_more o (record { text = c; read = read_as next.Command is; takes = took o taken })

    pub steps_last : x ≡ next.Last → (o : Option At) → TakesOne m e f ps qs w1 w2 number ticks now o → Steps m e f ps qs r1 r2 w1 w2 number ticks (stepped o true)
    steps_last is o taken = took_last o (record { text = c; read = read_as next.Last is; takes = took o taken })

    pub half_more : x ≡ next.Command → TakesHalf m e f ps qs w1 w2 number ticks now → StepsHalf m e f ps qs r1 r2 w1 w2 number ticks
    half_more is taken = inl (record { text = c; read = read_as next.Command is; takes = half taken })

    pub half_last : x ≡ next.Last → TakesHalf m e f ps qs w1 w2 number ticks now → StepsHalf m e f ps qs r1 r2 w1 w2 number ticks
    half_last is taken = inr (inl (record { text = c; read = read_as next.Last is; takes = half taken }))
