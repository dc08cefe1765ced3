-- What a backquote does once its shell is started, call by call.
use Rattle.std.proofs.Common.{◌≡◌, ℕ, Bool, List, [], Option, Some, None, option_map, unwrap_or, ap}
use Rattle.std.specs.Borrow.{Bor}
use Rattle.rc_model.specs.Run.Acts.{Started, Child, NoChild, Got, read_all, longest_output, waited, set_status, back_status, back_child, output_members}
use Rattle.rc_model.specs.Run.Calls.{Event, close, as_done}
use Rattle.rc_model.specs.Run.Plans.{done_with, asks, RanBetween}
use Rattle.rc_model.specs.Run.Shell.{Shell, Next, ◌>>=◌, ◌>>◌, pure, get, say}
use Rattle.rc_model.specs.Run.State.{State, with_status}
use Rattle.law_plans.proofs.Runs.{ran_none, ran_join}
use Rattle.rc_world.specs.Comes.{Left}
use Rattle.rc_world.specs.declared.starts.Stop.{Stop}
use Rattle.rc_world.proofs.Joins.{left_join}
use Rattle.rc_world.proofs.Shells.{ran_do, left_do}
use Rattle.rc_pipes.proofs.Steps.{ran_said, left_saying}

-- why the reading stopped, else how the child ended
pub why_or : (why : Option (Bor (List ℕ))) (status given : Bor (List ℕ)) → given ≡ unwrap_or why status →
    given.now ≡ back_status (option_map (λ text. text.now) why) status.now
why_or None status given e = ap (λ (text : Bor (List ℕ)). text.now) e
why_or (Some text) status given e = ap (λ (text : Bor (List ℕ)). text.now) e

module _ (r w : ℕ) (s : State) where
  -- what follows the close of the write end where no shell was started
  abbrev unread : List ℕ → Shell (List (List ℕ))
  unread why = say (close r) >> (set_status why >> pure [])

  -- what follows each call where one was
  abbrev finish : Got → List ℕ → Shell (List (List ℕ))
  finish out status = set_status (back_status out.why status) >> (get >>= (λ t. pure (output_members t out.text)))

  abbrev wait_and_finish : ℕ → Got → Shell (List (List ℕ))
  wait_and_finish n out = waited n >>= finish out

  abbrev after_read : ℕ → Got → Shell (List (List ℕ))
  after_read n out = say (close r) >> wait_and_finish n out

  abbrev output : ℕ → Shell (List (List ℕ))
  output n = read_all longest_output r >>= after_read n

  pub left_closing : (a b : Option (List Event)) (stop : Stop) (started : Started) → Left a b (asks (close w) as_done) stop →
      Left a b (back_child r w started s) stop
  left_closing a b stop (NoChild why) f = left_saying a b b s (close w) as_done (unread why) stop f
  left_closing a b stop (Child n) f = left_saying a b b s (close w) as_done (output n) stop f

  module _ (why : List ℕ) (a b : Option (List Event)) (d : Bool) (closed : RanBetween a b (asks (close w) as_done) (done_with d)) where
    no_child : RanBetween a b (back_child r w (NoChild why) s) (unread why s)
    no_child = ran_said a b b s (close w) as_done (unread why) d _ closed (ran_none b _)

    pub left_unread : (c : Option (List Event)) (stop : Stop) → Left b c (asks (close r) as_done) stop →
        Left a c (back_child r w (NoChild why) s) stop
    left_unread c stop f = left_join a b c stop _ _ no_child (left_saying b c c s (close r) as_done (set_status why >> pure []) stop f)

    pub ran_unread : (c : Option (List Event)) (e : Bool) → RanBetween b c (asks (close r) as_done) (done_with e) →
        RanBetween a c (back_child r w (NoChild why) s) (done_with (Next [] (with_status s why)))
    ran_unread c e f = ran_join a b c _ _ _ no_child (ran_said b c c s (close r) as_done (set_status why >> pure []) e _ f (ran_none c _))

  module _ (n : ℕ) (a b : Option (List Event)) (d : Bool) (closed : RanBetween a b (asks (close w) as_done) (done_with d)) where
    begun : RanBetween a b (back_child r w (Child n) s) (output n s)
    begun = ran_said a b b s (close w) as_done (output n) d _ closed (ran_none b _)

    pub left_reading : (c : Option (List Event)) (stop : Stop) → Left b c (read_all longest_output r s) stop →
        Left a c (back_child r w (Child n) s) stop
    left_reading c stop f = left_join a b c stop _ _ begun (left_do {s = s} (read_all longest_output r) (after_read n) f)

    module _ (out : Got) (c : Option (List Event)) (was_read : RanBetween b c (read_all longest_output r s) (done_with (Next out s))) where
      have_read : RanBetween a c (back_child r w (Child n) s) (after_read n out s)
      have_read = ran_join a b c _ _ _ begun (ran_do {s = s} {t = s} (read_all longest_output r) (after_read n) was_read (ran_none c _))

      pub left_closing_read : (e : Option (List Event)) (stop : Stop) → Left c e (asks (close r) as_done) stop →
          Left a e (back_child r w (Child n) s) stop
      left_closing_read e stop f = left_join a c e stop _ _ have_read (left_saying c e e s (close r) as_done (wait_and_finish n out) stop f)

      module _ (e : Option (List Event)) (k : Bool) (read_closed : RanBetween c e (asks (close r) as_done) (done_with k)) where
        have_closed : RanBetween a e (back_child r w (Child n) s) (wait_and_finish n out s)
        have_closed = ran_join a c e _ _ _ have_read (ran_said c e e s (close r) as_done (wait_and_finish n out) k _ read_closed (ran_none e _))

        pub left_waiting : (f : Option (List Event)) (stop : Stop) → Left e f (waited n s) stop →
            Left a f (back_child r w (Child n) s) stop
        left_waiting f stop h = left_join a e f stop _ _ have_closed (left_do {s = s} (waited n) (finish out) h)

        pub ran_finished : (f : Option (List Event)) (status : List ℕ) → RanBetween e f (waited n s) (done_with (Next status s)) →
            let t = with_status s (back_status out.why status) in
            RanBetween a f (back_child r w (Child n) s) (done_with (Next (output_members t out.text) t))
        ran_finished f status h = ran_join a e f _ _ _ have_closed (ran_do {s = s} {t = s} (waited n) (finish out) h (ran_none f _))
