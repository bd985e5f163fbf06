-- What a post and a step of the service make of a job manager.
use Rattle.std.specs.Prelude.{◌≡◌, ◌⊎◌, List, [], ◌∷◌, Some, None}
use Rattle.kvs_core.specs.Agrees.{Agrees}
use Rattle.kvs_core.specs.Posted.{IsNewPost}
use Rattle.kvs_keys.specs.Posted.{posts_landed}
use Rattle.kvs_rules.specs.Log.{Log}
use Rattle.kvs_rules.specs.Namespaces.{Setting}
use Rattle.kvs_rules.specs.declared.events.KvsEvent.{KvsEvent}
use Rattle.job_book.specs.Value.{BookValue}
use Rattle.manager_rules.specs.Posts.{Post, group_of, jobs_after}
use Rattle.job_manager.specs.Posts.{command_of}
use Rattle.job_manager.specs.Value.{ManagerValue}

-- the book after a post has landed
abbrev pub after_post : Post → BookValue → BookValue
after_post post book = record book { jobs = jobs_after post book.jobs }

-- the post waits to land then, and the service's log shows nothing of it
pub record Places (post : Post) (old new : ManagerValue) : Type 0 where
  pub posted : new.posted ≡ Some post
  pub book : new.book ≡ old.book
  pub size : new.core.size ≡ old.core.size
  pub agrees : (set : Setting) (log : Log) → Agrees old.core set log
      → IsNewPost old.core set log (command_of post) → Agrees new.core set log

-- no post has landed
pub record Stays (old new : ManagerValue) (events : List KvsEvent) : Type 0 where
  pub landed : posts_landed events ≡ []
  pub posted : new.posted ≡ old.posted
  pub book : new.book ≡ old.book

-- the post that waited has landed, and the book has followed it
pub record Lands (old new : ManagerValue) (events : List KvsEvent) : Type 0 where
  pub post : Post
  pub waited : old.posted ≡ Some post
  pub landed : posts_landed events ≡ group_of post ∷ []
  pub posted : new.posted ≡ None
  pub book : new.book ≡ after_post post old.book

abbrev pub Follows : ManagerValue → ManagerValue → List KvsEvent → Type 0
Follows old new events = Stays old new events ⊎ Lands old new events

-- nothing has changed of the posts and of the book
pub record Keeps (old new : ManagerValue) : Type 0 where
  pub posted : new.posted ≡ old.posted
  pub book : new.book ≡ old.book
  pub size : new.core.size ≡ old.core.size
