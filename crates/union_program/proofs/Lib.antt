mod AnsweredLaws
mod FollowLaws
mod JobLaws
mod JsonLaws
mod OpeningLaws
